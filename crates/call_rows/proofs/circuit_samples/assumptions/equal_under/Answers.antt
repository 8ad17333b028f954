use Rattle.std.proofs.Common.{refl}
use Rattle.call_rows.specs.circuit_samples.Circuits.{one}
use Rattle.call_rows.proofs.circuit_samples.AssumeExamples.{numbered_a, reads_a, under_equal, one_and_two_agree}
use Rattle.call_rows.proofs.circuit_samples.UnderExamples.{only_a_is_assumption}
use Rattle.call_rows.proofs.circuit_samples.assumptions.equal_under.Goals as goal

pub returns : goal.returns
returns c = record { assumption = only_a_is_assumption; numbered = numbered_a; reads = reads_a one refl; equal = under_equal; agree = one_and_two_agree }
