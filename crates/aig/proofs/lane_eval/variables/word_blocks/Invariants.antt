use Rattle.aig.specs.lane_eval.Signatures.{AreWordBlocks}
use Rattle.aig.proofs.lane_eval.variables.word_blocks.Given as goal

abbrev pub invariant-loop-i : goal.invariant-loop-i
invariant-loop-i l = AreWordBlocks l.words l.i l.blocks.items
