-- Nothing is counted where no signal is unfolded.
use Rattle.std.proofs.Common.{◌≡◌, ℕ, zero, suc, List, [], slice_get, Some, refl, sym, subst, arith}
use Rattle.std.proofs.lemmas.List.Elements.{All-nil}
use Rattle.event_nodes.specs.View.{EventCircuitView}
use Rattle.event_nodes.specs.Visited.{CounterView, HasCounted, IsVisitedPair}
use Rattle.event_form.specs.event_findings.unshown_pairs.class_events.Laws.{CountingBegins}

none_counted : (e : EventCircuitView) (children : List (ℕ × ℕ)) (c : CounterView) → c ≡ record { places = []; weight = 0 } → HasCounted e children [] c
none_counted e children c none = subst (HasCounted e children []) (sym none) (record {
  weighed = record { sum = refl; small = omega arith; few = omega arith };
  only = All-nil (IsVisitedPair e children []);
  all = λ x h. absurd (omega (arith, h.1));
})

none_at : (k : ℕ) (p : ℕ × ℕ) → slice_get [] k ≡ Some p → ⊥
none_at zero p q = cc
none_at (suc k) p q = cc

pub begins : CountingBegins
begins e nodes left right = record {
  left_counted = none_counted e.left e.events.children e.left_count left;
  right_counted = none_counted e.right e.events.children e.right_count right;
  left_nodes = λ x h. absurd (omega (arith, h.1));
  right_nodes = λ x h. absurd (omega (arith, h.1));
  only = λ k n class at. absurd (none_at k (n, class) (subst (λ (es : List (ℕ × ℕ)). slice_get es k ≡ Some (n, class)) nodes at));
}
