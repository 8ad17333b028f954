use Rattle.std.proofs.Common.{refl}
use Rattle.call_rows.proofs.circuit_samples.event_samples.TwoClasses.{pair}
use Rattle.call_rows.proofs.circuit_samples.event_samples.ExposedPair.{exposed_sides, cut_met, before_and_behind_agree}
use Rattle.call_rows.proofs.circuit_samples.event_samples.samples.exposed_and_enabled.Goals as goal

pub returns : goal.returns
returns c = record { sides = exposed_sides pair; enabled = cut_met.1; class = refl; equal = cut_met.0; agree = before_and_behind_agree.0; onward = before_and_behind_agree.1 }
