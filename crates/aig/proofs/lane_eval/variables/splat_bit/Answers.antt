-- Each bit is set, or none.
use Rattle.std.proofs.Common.{sym, ◌∙◌}
use Rattle.aig.proofs.lane_eval.Numbers.{splat-set, splat-clear}
use Rattle.aig.proofs.lane_eval.variables.splat_bit.Goals as goal
use Rattle.aig.proofs.lane_eval.variables.splat_bit.Goals.{then-bit, else-bit}

pub returns-clause-bits : goal.returns-clause-bits
returns-clause-bits c = λ k inside.
    elim c.if-bit.branch [
      | then-bit w ↦ splat-set c.if-bit.result k inside w.result-is ∙ sym w.if-bit.true
      | else-bit w ↦ splat-clear c.if-bit.result k inside w.result-is ∙ sym w.if-bit.false
    ]
