-- What a start visits is counted with what was counted before.
use Rattle.std.proofs.Common.{◌≡◌, ◌∙◌, ◌+◌, ◌<◌, ◌≤◌, ℕ, List, [], ◌∷◌, length, slice_get, Some, sym, ap, subst, arith, inl, inr, length-append}
use Rattle.std.specs.Prelude.{◌⊎◌}
use Rattle.std.specs.List.{All, Contains}
use Rattle.std.proofs.lemmas.Bool.{cases_lt}
use Rattle.std.proofs.lemmas.List.Elements.{All-nil, All-contains, All-weaker}
use Rattle.circuit_theory.proofs.Lists.{All-from_each, Contains-head}
use Rattle.circuit_theory.specs.EventSizes.{Start, EventVisits, IsEventOver}
use Rattle.event_nodes.specs.event_variables.flat_net.Sound.{IsSound}
use Rattle.event_nodes.specs.event_variables.flat_net.View.{NetView}
use Rattle.event_nodes.proofs.event_variables.flat_net.Places.{one_at}
use Rattle.event_nodes.specs.Adds.{Adds}
use Rattle.event_nodes.specs.Nodes.{EventGraphView, IsEventGraph, path_of}
use Rattle.event_nodes.specs.View.{EventCircuitView, side_of, Enabled}
use Rattle.event_nodes.specs.Visited.{CounterView, IsWeighed, IsVisitedPair}
use Rattle.event_nodes.proofs.Lists.{adds_contains, adds_from}
use Rattle.event_nodes.proofs.Paths.{path_grows}
use Rattle.event_nodes.proofs.Totals.{passed_over}
use Rattle.edbf_unfold.specs.event_literals.event_walk.Walk.{IsCounting, HasCountedStart}
use Rattle.event_classes.specs.event_functions.Refused.{IsOverweight}

abbrev pub nothing : CounterView
nothing = record { places = []; weight = 0 }

-- the event nodes stay where variables are added
pub children_same : (w v : EventGraphView) → v ≡ record w { places = v.places } → v.children ≡ w.children
children_same w v same = ap (λ (u : EventGraphView). u.children) same

-- the first places have been counted, and one place more
pub counted_next : (visits old new : List (ℕ × ℕ)) (at : ℕ) (p : ℕ × ℕ) → slice_get visits at ≡ Some p → Adds (λ q. q ≡ p) old new → Contains new p → ((i : ℕ) (q : ℕ × ℕ) → i < at → slice_get visits i ≡ Some q → Contains old q) →
    (i : ℕ) (q : ℕ × ℕ) → i < at + 1 → slice_get visits i ≡ Some q → Contains new q
counted_next visits old new at p here adds own before i q below at_i = go (cases_lt i at)
  where
    go : (i < at) ⊎ (at ≤ i) → Contains new q
    go (inl l) = adds_contains (λ (r : ℕ × ℕ). r ≡ p) old new q adds (before i q l at_i)
    go (inr l) = let last : i ≡ at = omega (arith, l, below) in subst (Contains new) (one_at visits at p q here (subst (λ (m : ℕ). slice_get visits m ≡ Some q) last at_i)) own

-- a place stays visited while event nodes are made
pub pair_later : (e : EventCircuitView) (old new : List (ℕ × ℕ)) → Adds (λ q. Unit {0}) old new → (starts : List (Start ℕ)) (p : ℕ × ℕ) → IsVisitedPair e old starts p → IsVisitedPair e new starts p
pair_later e old new adds starts p k = record {
  node = let e = ap length adds.is in omega (arith, k.node, e, length-append old adds.more);
  within = k.within;
  out = k.out;
  visit = subst (λ (n : List ℕ). EventVisits (side_of e) (Enabled e) starts k.out p.1 n) (sym (ap (λ (es : List (ℕ × ℕ)). path_of es p.0) adds.is ∙ path_grows old adds.more p.0 k.node)) k.visit;
}

module _ (e : EventCircuitView) (x : Start ℕ) (old new : List (ℕ × ℕ)) (b v : CounterView) (none : b ≡ nothing) (counting : IsCounting e x old new b v) where
  visited : IsCounting e x old new nothing v
  visited = subst (λ (u : CounterView). IsCounting e x old new u v) none counting

  -- what was visited is visited by each list of starts with this one
  pub all_visited : (starts : List (Start ℕ)) → Contains starts x → All (IsVisitedPair e new starts) v.places
  all_visited starts h = visited.counted starts h (All-nil (IsVisitedPair e old starts))

  pub own_visited : All (IsVisitedPair e new (x ∷ [])) v.places
  own_visited = all_visited (x ∷ []) (Contains-head x [])

  pub signals_of : (n : NetView) → n ≡ e.net → All (λ p. p.1 < length n.drivers) v.places
  signals_of n same = subst (λ (m : NetView). All (λ p. p.1 < length m.drivers) v.places) (sym same) (All-weaker (IsVisitedPair e new (x ∷ [])) (λ p. p.1 < length e.net.drivers) (λ p k. k.within) v.places own_visited)

  pub nodes_of : All (λ p. p.0 ≤ length new) v.places
  nodes_of = All-weaker (IsVisitedPair e new (x ∷ [])) (λ p. p.0 ≤ length new) (λ p k. k.node) v.places own_visited

  pub total_visited : (c d : List (ℕ × ℕ)) → Adds (Contains v.places) c d → (starts : List (Start ℕ)) → Contains starts x → All (IsVisitedPair e old starts) c → All (IsVisitedPair e new starts) d
  total_visited c d adds starts h before = All-from_each (IsVisitedPair e new starts) d (λ p k. go p (adds_from (Contains v.places) c d p adds k))
    where
      go : (p : ℕ × ℕ) → Contains c p ⊎ Contains v.places p → IsVisitedPair e new starts p
      go p (inl k) = pair_later e old new visited.more starts p (All-contains (IsVisitedPair e old starts) c p before k)
      go p (inr k) = All-contains (IsVisitedPair e new starts) v.places p (all_visited starts h) k

  pub total_counting : (c d : CounterView) → Adds (Contains v.places) c.places d.places → IsCounting e x old new c d
  total_counting c d adds = record { more = visited.more; nodes = visited.nodes; counted = λ starts h before. total_visited c.places d.places adds starts h before }

  -- what is counted weighs too much
  pub total_over : (w : EventGraphView) → IsSound e.net → IsEventGraph w → w.children ≡ new → (c d : List (ℕ × ℕ)) → IsOverweight e.net d → Adds (Contains v.places) c d →
      (starts : List (Start ℕ)) → Contains starts x → All (IsVisitedPair e old starts) c → IsEventOver (side_of e) (Enabled e) starts 2000000
  total_over w sound is same c d over adds starts h before =
      passed_over e w starts d 2000000 sound is over.distinct (subst (λ (es : List (ℕ × ℕ)). All (IsVisitedPair e es starts) d) (sym same) (total_visited c d adds starts h before)) over.weight

  pub visits_over : (w : EventGraphView) → IsSound e.net → IsEventGraph w → w.children ≡ new → IsOverweight e.net v.places → (starts : List (Start ℕ)) → Contains starts x → IsEventOver (side_of e) (Enabled e) starts 2000000
  visits_over w sound is same over starts h =
      passed_over e w starts v.places 2000000 sound is over.distinct (subst (λ (es : List (ℕ × ℕ)). All (IsVisitedPair e es starts) v.places) (sym same) (all_visited starts h)) over.weight

-- the count holds what the start visits
pub total_counted : (e : EventCircuitView) (x : Start ℕ) (children : List (ℕ × ℕ)) (c d b v : CounterView) → HasCountedStart e x children b v → Adds (Contains v.places) c.places d.places → All (Contains d.places) v.places → IsWeighed e.net d → HasCountedStart e x children c d
total_counted e x children c d b v k adds all weighed = record {
  on = record { weighed = weighed; few = k.on.few; more = record { more = adds.more; is = adds.is; each = λ i q h. tt } };
  holds = λ out q path visit. (let l = k.holds out q path visit in record { node = l.node; made = l.made; path_is = l.path_is; listed = All-contains (Contains d.places) v.places (l.node, q) all l.listed });
  nodes = k.nodes;
}
