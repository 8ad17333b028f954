-- The bits of two literals.
use Rattle.std.proofs.Common.{ap, ◌∙◌, arith, List, ℕ}
use Rattle.aig.specs.lane_eval.Blocks.{block_bit}
use Rattle.aig.proofs.lane_eval.Lanes.{lits-and}
use Rattle.aig.proofs.lane_eval.evaluation.and_lits.Goals as goal

pub returns-clause-bits : goal.returns-clause-bits
returns-clause-bits c = λ k inside. ap (λ (b : List ℕ). block_bit b k) c.and_block.ensures.value ∙ lits-and c.args.blocks.now c.args.l.0 c.args.r.0 k _ _ c.requires.blocks (omega arith) (omega arith) inside
