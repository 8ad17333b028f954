-- A variable of the first nine, or another.
use Rattle.std.proofs.Common.{refl}
use Rattle.aig.proofs.lane_eval.Numbers.{low-bit, high-bit, low_blocks}
use Rattle.aig.proofs.lane_eval.variables.variable_block.Goals as goal
use Rattle.aig.proofs.lane_eval.variables.variable_block.Goals.{then-place-lt-LOW, else-place-lt-LOW}

pub returns-clause-bits : goal.returns-clause-bits
unfolding low_blocks
returns-clause-bits c = λ k inside.
    elim c.if-place-lt-LOW.branch [
      | then-place-lt-LOW w ↦ low-bit c.if-place-lt-LOW.result c.args.number c.args.place k w.if-place-lt-LOW.true inside w.result-is
      | else-place-lt-LOW w ↦ high-bit c.if-place-lt-LOW.result w.splat_bit.result _ c.args.number c.args.place k w.if-place-lt-LOW.false inside w.result-is w.splat_bit.ensures.bits refl
    ]
