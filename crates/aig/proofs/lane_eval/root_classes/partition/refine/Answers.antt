use Rattle.std.proofs.Common.{ℕ, List, length, slice_get, sym, subst, ap, ◌∙◌}
use Rattle.aig.specs.lane_eval.root_classes.Splits.{IsSplit}
use Rattle.aig.proofs.lane_eval.root_classes.Classes.{split-refines, follows-refines}
use Rattle.aig.proofs.lane_eval.root_classes.partition.refine.Goals as goal

pub returns-in_ok-firsts : goal.returns-in_ok-firsts
returns-in_ok-firsts c = λ row rows so_far right.
    split-refines row rows c.args.bits.now right c.args.firsts.now.items so_far c.in_ok-firsts.field-0.items
    (subst (λ (fs : List ℕ). IsSplit fs c.args.bits.now (length fs) c.in_ok-firsts.field-0.items) c.as_slice-then-not-all_follow.ensures.value c.in_ok-firsts.ensures)

pub returns-else-not-all_follow : goal.returns-else-not-all_follow
returns-else-not-all_follow c = λ row rows so_far right.
    follows-refines row rows c.args.bits.now right c.args.firsts.now.items so_far
    (λ i p at. c.all_follow.ensures c.if-not-all_follow.false i p (ap (λ (fs : List ℕ). slice_get fs i) c.as_slice.ensures.value ∙ at))

pub split-requires-clause-within : goal.split-requires-clause-within
split-requires-clause-within c = λ i p at. c.requires.within i p (ap (λ (fs : List ℕ). slice_get fs i) (sym c.as_slice-then-not-all_follow.ensures.value) ∙ at)

pub all_follow-requires-clause-within : goal.all_follow-requires-clause-within
all_follow-requires-clause-within c = λ i p at. c.requires.within i p (ap (λ (fs : List ℕ). slice_get fs i) (sym c.as_slice.ensures.value) ∙ at)

pub split-requires-clause-each : goal.split-requires-clause-each
split-requires-clause-each c = ap length c.as_slice-then-not-all_follow.ensures.value ∙ c.requires.each

pub all_follow-requires-clause-each : goal.all_follow-requires-clause-each
all_follow-requires-clause-each c = ap length c.as_slice.ensures.value ∙ c.requires.each
