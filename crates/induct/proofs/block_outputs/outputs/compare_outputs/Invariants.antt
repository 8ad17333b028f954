use Rattle.std.proofs.Common.{take}
use Rattle.std.specs.List.{AllZip}
use Rattle.induct.specs.block_outputs.Answers.{IsOutputAnswer}
use Rattle.induct.proofs.block_outputs.outputs.compare_outputs.Given as goal

abbrev pub invariant-loop-output : goal.invariant-loop-output
invariant-loop-output l = AllZip (IsOutputAnswer l.nets l.graph l.conflicts) (take l.output-index l.nets.left.now.outputs) l.pairs
