-- One place more of the cycle, or another cycle's place before them.
use Rattle.std.proofs.Common.{◌≡◌, ◌∙◌, ◌+◌, ◌-◌, ◌<◌, ◌≤◌, ℕ, List, get_or, slice_get, Some, sym, ap, arith, inl, inr}
use Rattle.std.specs.Prelude.{◌⊎◌}
use Rattle.std.proofs.lemmas.Bool.{cases_lt}
use Rattle.std.proofs.lemmas.Option.{get_or_from_slice_get}
use Rattle.reset_form.proofs.reset_unfold.cone.start_of.Goals as goal

-- the place in front of these is in the cycle that the place read there is in
in_front : (visited : List (ℕ × ℕ)) (from i : ℕ) (p : ℕ × ℕ) → i + 1 ≡ from → slice_get visited i ≡ Some p → (get_or visited (from - 1) (0, 0)).0 ≡ p.0
in_front visited from i p next at =
    let e : from - 1 ≡ i = omega (arith, next) in
    ap (λ (k : ℕ). (get_or visited k (0, 0)).0) e ∙ ap (λ (q : ℕ × ℕ). q.0) (get_or_from_slice_get visited i p (0, 0) at)

one_more : (visited : List (ℕ × ℕ)) (end cycle from : ℕ) → 0 < from → ((i : ℕ) (p : ℕ × ℕ) → from ≤ i → i < end → slice_get visited i ≡ Some p → p.0 ≡ cycle) → (get_or visited (from - 1) (0, 0)).0 ≡ cycle →
    (i : ℕ) (p : ℕ × ℕ) → from - 1 ≤ i → i < end → slice_get visited i ≡ Some p → p.0 ≡ cycle
one_more visited end cycle from some same here i p after before at = go (cases_lt i from)
  where
    go : (i < from) ⊎ (from ≤ i) → p.0 ≡ cycle
    go (inl k) = sym (in_front visited from i p (omega (arith, k, after, some)) at) ∙ here
    go (inr k) = same i p k before at

pub loop-from-preserved : goal.loop-from-preserved
loop-from-preserved c = record {
  before = omega (arith, c.loop-from.invariant.before);
  same = one_more c.args.visited.now c.args.end c.args.cycle c.loop-from.from c.loop-from-test.true c.loop-from.invariant.same c.if-visited-from.true;
}

pub returns-else-visited-from : goal.returns-else-visited-from
returns-else-visited-from c = record {
  before = c.loop-from.invariant.before;
  same = c.loop-from.invariant.same;
  other = λ i p next at e. c.if-visited-from.false (in_front c.args.visited.now c.loop-from.from i p next at ∙ e);
}
