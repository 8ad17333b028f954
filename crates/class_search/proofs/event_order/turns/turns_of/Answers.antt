-- One turn more, and all of them in order.
use Rattle.std.proofs.Common.{◌≡◌, ◌∙◌, ◌+◌, ℕ, Option, Some, None, refl, sym, ap, subst, arith}
use Rattle.std.proofs.lemmas.Option.{slice_get-get_or}
use Rattle.class_search.proofs.event_order.Sorting.{TurnsUpTo, no_turns, turn_more, turn_none, turns_sorted}
use Rattle.class_search.proofs.event_order.turns.turns_of.Goals as goal
use Rattle.class_search.proofs.event_order.turns.turns_of.Goals.{in-Some+in_ok-push, in_default}

pub loop-number-init : goal.loop-number-init
loop-number-init c = no_turns c.args.depths.now c.new-turns.result.items c.new-turns.ensures.items

pub loop-number-preserved : goal.loop-number-preserved
loop-number-preserved c =
    elim c.match-place.branch [
      | in-Some+in_ok-push w ↦ turn_more c.args.depths.now c.loop-number.number w.in-Some.depth c.loop-number.turns.items c.match-place.turns.items c.loop-number.invariant (slice_get-get_or c.args.depths.now c.loop-number.number _ c.loop-number-test.true ∙ ap Some w.in-Some.is)
          (ap (λ v. v.items) w.turns-is ∙ w.in_ok-push.ensures.items)
      | in_default w ↦ subst (TurnsUpTo c.args.depths.now (c.loop-number.number + 1)) (sym (ap (λ v. v.items) w.turns-is))
          (turn_none c.args.depths.now c.loop-number.number c.loop-number.turns.items c.loop-number.invariant (slice_get-get_or c.args.depths.now c.loop-number.number _ c.loop-number-test.true ∙ ap Some (nothing _ w.in_default.not-Some)))
    ]
  where
    nothing : (o : Option ℕ) → ((d : ℕ) → o ≡ Some d → ⊥) → o ≡ None
    nothing None missing = refl
    nothing (Some d) missing = absurd (missing d refl)

pub returns : goal.returns
returns c = turns_sorted c.args.depths.now c.loop-number.number c.loop-number.turns.items c.sort.new.self.items (omega (arith, c.loop-number-test.false)) c.loop-number.invariant c.sort.ensures.permutation c.in_ok-sort.ensures.sorted
