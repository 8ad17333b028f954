use Rattle.std.proofs.Common.{take}
use Rattle.std.specs.List.{AllZip}
use Rattle.sec_setup.specs.ports.Pairing.{IsOutputPair}
use Rattle.sec_setup.proofs.ports.pairs.output_pairs.Given as goal

abbrev pub invariant-loop-output : goal.invariant-loop-output
invariant-loop-output l = AllZip (IsOutputPair l.b) (take l.output-index l.a.outputs) l.pairs
