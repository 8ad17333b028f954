use Rattle.std.proofs.Common.{◌≡◌, true, false, sym, ◌∙◌, ap}
use Rattle.std.specs.Ordering.{is_lt}
use Rattle.latch_graph.proofs.Before.{before_cmp, cmp_before, less_is}
use Rattle.latch_graph.proofs.rounds.is_before.Goals as goal

pub returns-clause-yes : goal.returns-clause-yes
returns-clause-yes c = λ h. cmp_before c.args.left.now c.args.right.now (sym c.cmp.ensures ∙ less_is c.cmp.result (sym c.is_lt.ensures ∙ h))

pub returns-clause-no : goal.returns-clause-no
returns-clause-no c = λ h before. differ (sym (ap is_lt (c.cmp.ensures ∙ before_cmp c.args.left.now c.args.right.now before)) ∙ (sym c.is_lt.ensures ∙ h))
  where
    differ : true ≡ false → ⊥
    differ e = cc
