-- Event nodes that starts reach, and what is visited of them, while more is made.
use Rattle.std.proofs.Common.{◌≡◌, ◌∙◌, ◌≤◌, ℕ, List, [], ◌∷◌, ◌++◌, length, slice_get, Some, refl, sym, ap, subst, arith, inl, inr, length-append}
use Rattle.std.specs.Prelude.{◌⊎◌}
use Rattle.std.specs.List.{All, Contains}
use Rattle.std.proofs.lemmas.List.Elements.{All-weaker, Contains-append_cases, Contains-append_left, Contains-append_right}
use Rattle.circuit_theory.specs.Run.{IsEnabled}
use Rattle.circuit_theory.proofs.Lists.{Contains-head, only}
use Rattle.circuit_theory.specs.EventSizes.{Start}
use Rattle.circuit_theory.specs.EventTotals.{StartLatches}
use Rattle.circuit_theory.specs.Frame.{EventSide, ReachedAt, IsNode}
use Rattle.event_nodes.specs.Adds.{Adds}
use Rattle.event_nodes.specs.Nodes.{path_of}
use Rattle.event_nodes.specs.Reach.{IsListedAt}
use Rattle.event_nodes.specs.View.{EventCircuitView, side_of, Enabled}
use Rattle.event_nodes.specs.Visited.{CounterView, IsVisitedPair, HoldsVisits, HasCounted}
use Rattle.event_nodes.proofs.Lists.{adds_contains, adds_cases}
use Rattle.event_nodes.proofs.Paths.{path_grows}
use Rattle.event_nodes.proofs.Visits.{visits_more}
use Rattle.edbf_unfold.specs.event_literals.event_walk.Walk.{IsCounting, HasCountedStart}
use Rattle.event_classes.proofs.event_functions.Totaling.{pair_later}
use Rattle.circuit_laws.specs.reset_laws.class_extension.Laws.{UnfoldAlike}
use Rattle.event_classes.specs.event_functions.class_totals.Totals.{HasNodes}

module _ {P : Type 0} (s : EventSide P) where
  -- more starts reach more
  reached_more : (starts more : List (Start P)) → ((x : Start P) → Contains starts x → Contains more x) → (node : List ℕ) (v : P) → ReachedAt s (IsEnabled s.circuit) (StartLatches s starts) node v → ReachedAt s (IsEnabled s.circuit) (StartLatches s more) node v
  reached_more starts more to [] v r = (r.0, to r.0 r.1, r.2, r.3)
  reached_more starts more to (k ∷ node) v r = (r.0, reached_more starts more to node r.0 r.1, r.2, r.3)

  pub node_more : (starts more : List (Start P)) → ((x : Start P) → Contains starts x → Contains more x) → (node : List ℕ) → IsNode s (IsEnabled s.circuit) (StartLatches s starts) node → IsNode s (IsEnabled s.circuit) (StartLatches s more) node
  node_more starts more to [] h = tt
  node_more starts more to (k ∷ node) h = (h.0, reached_more starts more to node h.0 h.1, h.2)

  -- what is reached is reached from one of the starts
  reached_one : (starts : List (Start P)) (node : List ℕ) (v : P) → ReachedAt s (IsEnabled s.circuit) (StartLatches s starts) node v → (x : Start P) × Contains starts x × ReachedAt s (IsEnabled s.circuit) (StartLatches s (x ∷ [])) node v
  reached_one starts [] v r = (r.0, r.1, (r.0, Contains-head r.0 [], r.2, r.3))
  reached_one starts (k ∷ node) v r = let x = reached_one starts node r.0 r.1 in (x.0, x.1, (r.0, x.2, r.2, r.3))

  -- a node is the root, or one of those that one start reaches
  pub node_one : (starts : List (Start P)) (node : List ℕ) → IsNode s (IsEnabled s.circuit) (StartLatches s starts) node → (node ≡ []) ⊎ ((x : Start P) × Contains starts x × IsNode s (IsEnabled s.circuit) (StartLatches s (x ∷ [])) node)
  node_one starts [] h = inl refl
  node_one starts (k ∷ node) h = let x = reached_one starts node h.0 h.1 in inr (x.0, x.1, (h.0, x.2, h.2))

  -- without starts nothing is reached
  reached_none : (node : List ℕ) (v : P) → ReachedAt s (IsEnabled s.circuit) (StartLatches s []) node v → ⊥
  reached_none [] v r = omega (arith, r.1.1)
  reached_none (k ∷ node) v r = reached_none node r.0 r.1

  pub node_none : (node : List ℕ) → IsNode s (IsEnabled s.circuit) (StartLatches s []) node → node ≡ []
  node_none [] h = refl
  node_none (k ∷ node) h = absurd (reached_none node h.0 h.1)

pub root_path : (es : List (ℕ × ℕ)) → path_of es 0 ≡ []
root_path es = path_grows [] es 0 (omega arith)

pub path_later : (old new : List (ℕ × ℕ)) → Adds (λ q. Unit {0}) old new → (n : ℕ) → n ≤ length old → path_of new n ≡ path_of old n
path_later old new adds n within = ap (λ (es : List (ℕ × ℕ)). path_of es n) adds.is ∙ path_grows old adds.more n within

pub length_later : (old new : List (ℕ × ℕ)) → Adds (λ q. Unit {0}) old new → length old ≤ length new
length_later old new adds = let e = ap length adds.is in omega (arith, e, length-append old adds.more)

-- the nodes of one start more
pub nodes_more : {P : Type 0} (s : EventSide P) (old new : List (ℕ × ℕ)) → Adds (λ q. Unit {0}) old new → (starts : List (Start P)) (y : Start P) → ((k n class : ℕ) → slice_get old k ≡ Some (n, class) → n ≤ length old) → HasNodes s old starts →
    ((k n class : ℕ) → length old ≤ k → slice_get new k ≡ Some (n, class) → IsNode s (IsEnabled s.circuit) (StartLatches s (y ∷ [])) (class ∷ path_of new n)) →
    ((node : List ℕ) → IsNode s (IsEnabled s.circuit) (StartLatches s (y ∷ [])) node → (n : ℕ) × (n ≤ length new) × (path_of new n ≡ node)) → HasNodes s new (starts ++ y ∷ [])
nodes_more {P} s old new adds starts y parents has more all = record {
  only = λ k n class at. go k n class at (adds_cases (λ q. Unit {0}) old new k (n, class) adds at);
  all = λ node h. of node (node_one s (starts ++ y ∷ []) node h);
}
  where
    go : (k n class : ℕ) → slice_get new k ≡ Some (n, class) → (slice_get old k ≡ Some (n, class)) ⊎ ((length old ≤ k) × Unit {0}) → IsNode s (IsEnabled s.circuit) (StartLatches s (starts ++ y ∷ [])) (class ∷ path_of new n)
    go k n class at (inl h) =
        subst (λ (p : List ℕ). IsNode s (IsEnabled s.circuit) (StartLatches s (starts ++ y ∷ [])) (class ∷ p)) (sym (path_later old new adds n (parents k n class h)))
        (node_more s starts (starts ++ y ∷ []) (λ x m. Contains-append_left starts (y ∷ []) x m) (class ∷ path_of old n) (has.only k n class h))
    go k n class at (inr h) = node_more s (y ∷ []) (starts ++ y ∷ []) (λ x m. Contains-append_right starts (y ∷ []) x m) (class ∷ path_of new n) (more k n class h.0 at)

    of : (node : List ℕ) → (node ≡ []) ⊎ ((x : Start P) × Contains (starts ++ y ∷ []) x × IsNode s (IsEnabled s.circuit) (StartLatches s (x ∷ [])) node) → (n : ℕ) × (n ≤ length new) × (path_of new n ≡ node)
    of node (inl e) = (0, omega arith, root_path new ∙ sym e)
    of node (inr (x, m, h)) = pick (Contains-append_cases starts (y ∷ []) x m)
      where
        alone : Contains starts x → (z : Start P) → Contains (x ∷ []) z → Contains starts z
        alone k z c = subst (Contains starts) (only x z c) k

        pick : Contains starts x ⊎ Contains (y ∷ []) x → (n : ℕ) × (n ≤ length new) × (path_of new n ≡ node)
        pick (inl k) =
            let n = has.all node (node_more s (x ∷ []) starts (alone k) node h) in
            (n.0, let low = length_later old new adds in omega (arith, n.1, low), path_later old new adds n.0 n.1 ∙ n.2)
        pick (inr k) = all node (subst (λ (z : Start P). IsNode s (IsEnabled s.circuit) (StartLatches s (z ∷ [])) node) (sym (only y x k)) h)

-- what has been counted stays so while event nodes are made
listed_later : (old new places more : List (ℕ × ℕ)) → Adds (λ q. Unit {0}) old new → ((p : ℕ × ℕ) → Contains places p → Contains more p) → (path : List ℕ) (q : ℕ) → IsListedAt old places path q → IsListedAt new more path q
listed_later old new places more adds to path q l = record {
  node = l.node;
  made = let low = length_later old new adds in let m = l.made in omega (arith, low, m);
  path_is = path_later old new adds l.node l.made ∙ l.path_is;
  listed = to (l.node, q) l.listed;
}

pub counted_later : (e : EventCircuitView) (old new : List (ℕ × ℕ)) (starts : List (Start ℕ)) (c : CounterView) → Adds (λ q. Unit {0}) old new → HasCounted e old starts c → HasCounted e new starts c
counted_later e old new starts c adds h = record {
  weighed = h.weighed;
  only = All-weaker (IsVisitedPair e old starts) (IsVisitedPair e new starts) (pair_later e old new adds starts) c.places h.only;
  all = λ x m out q path visit. listed_later old new c.places c.places adds (λ p k. k) path q (h.all x m out q path visit);
}

pair_more : (e : EventCircuitView) (children : List (ℕ × ℕ)) (starts more : List (Start ℕ)) → ((x : Start ℕ) → Contains starts x → Contains more x) → (p : ℕ × ℕ) → IsVisitedPair e children starts p → IsVisitedPair e children more p
pair_more e children starts more to p k = record { node = k.node; within = k.within; out = k.out; visit = visits_more (side_of e) (Enabled e) starts more to k.visit }

pub pairs_more : (e : EventCircuitView) (children : List (ℕ × ℕ)) (starts : List (Start ℕ)) (x : Start ℕ) (places : List (ℕ × ℕ)) → All (IsVisitedPair e children starts) places → All (IsVisitedPair e children (starts ++ x ∷ [])) places
pairs_more e children starts x places all = All-weaker (IsVisitedPair e children starts) (IsVisitedPair e children (starts ++ x ∷ [])) (pair_more e children starts (starts ++ x ∷ []) (λ y m. Contains-append_left starts (x ∷ []) y m)) places all

-- the start is counted too
pub counted_more : (e : EventCircuitView) (old new : List (ℕ × ℕ)) (starts : List (Start ℕ)) (x : Start ℕ) (c d : CounterView) → HasCounted e old starts c → IsCounting e x old new c d → HasCountedStart e x new c d → HasCounted e new (starts ++ x ∷ []) d
counted_more e old new starts x c d h counting start = record {
  weighed = start.on.weighed;
  only = counting.counted (starts ++ x ∷ []) (Contains-append_right starts (x ∷ []) x (Contains-head x [])) (pairs_more e old starts x c.places h.only);
  all = λ y m. go y (Contains-append_cases starts (x ∷ []) y m);
}
  where
    go : (y : Start ℕ) → Contains starts y ⊎ Contains (x ∷ []) y → HoldsVisits e new y d.places
    go y (inl m) = λ out q path visit. listed_later old new c.places d.places counting.more (λ p k. adds_contains (λ r. Unit {0}) c.places d.places p start.on.more k) path q (h.all y m out q path visit)
    go y (inr m) = subst (λ (z : Start ℕ). HoldsVisits e new z d.places) (only x y m) start.holds

-- what is visited alike is counted alike
pub counted_alike : (e : EventCircuitView) (ks : List ℕ) (children : List (ℕ × ℕ)) (starts : List (Start ℕ)) (c : CounterView) → ((zs : List (Start ℕ)) → ((x : Start ℕ) → Contains zs x → Contains starts x) → UnfoldAlike (side_of e) (side_of (record e { classes = ks })) zs) →
    HasCounted e children starts c → HasCounted (record e { classes = ks }) children starts c
counted_alike e ks children starts c alike h = record {
  weighed = h.weighed;
  only = All-weaker (IsVisitedPair e children starts) (IsVisitedPair (record e { classes = ks }) children starts) (λ p k. record { node = k.node; within = k.within; out = k.out; visit = ((alike starts (λ x m. m)).visits k.out p.1 (path_of children p.0)).0 k.visit }) c.places h.only;
  all = λ x m out q path visit. h.all x m out q path (((alike (x ∷ []) (λ z k. subst (Contains starts) (only x z k) m)).visits out q path).1 visit);
}
