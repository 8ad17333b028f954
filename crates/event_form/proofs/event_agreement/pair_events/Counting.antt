-- What was counted of a circuit, while event nodes are made and with one start more.
use Rattle.std.proofs.Common.{◌≡◌, ◌≢◌, ◌∙◌, ◌+◌, ◌<◌, ◌≤◌, ℕ, zero, suc, List, [], ◌∷◌, ◌++◌, length, get_or, slice_get, Option, Some, sym, ap, subst, arith, inl, inr, length-append}
use Rattle.std.specs.Prelude.{◌⊎◌}
use Rattle.std.specs.List.{All, AllPairs, Contains}
use Rattle.std.proofs.lemmas.List.{get_or_default}
use Rattle.std.proofs.lemmas.Option.{slice_get_within}
use Rattle.class_search.specs.event_nodes.Table.{AreDistinct}
use Rattle.std.proofs.lemmas.List.Elements.{All-weaker, Contains-append_cases, Contains-append_left, Contains-append_right, Contains-get_or}
use Rattle.circuit_theory.proofs.Lists.{Contains-head, only}
use Rattle.circuit_theory.specs.EventSizes.{Start, EventVisits}
use Rattle.class_search.proofs.flat_net.Nets.{some_at}
use Rattle.event_nodes.specs.Adds.{Adds}
use Rattle.event_nodes.specs.Nodes.{EventGraphView, IsEventGraph, IsTree, paths_of, path_of}
use Rattle.event_nodes.specs.Reach.{IsListedAt}
use Rattle.event_nodes.specs.View.{EventCircuitView, side_of, Enabled}
use Rattle.event_nodes.specs.Visited.{CounterView, HasCounted, IsVisitedPair, HoldsVisits, HoldsNodes}
use Rattle.event_nodes.proofs.Lists.{adds_contains, adds_cases}
use Rattle.event_nodes.proofs.OnePath.{one_node}
use Rattle.event_nodes.proofs.Paths.{path_grows, child_path, paths_length}
use Rattle.event_nodes.proofs.Visits.{visits_more}
use Rattle.edbf_unfold.specs.event_literals.event_walk.Walk.{HasCountedStart, IsCounting}
use Rattle.event_classes.proofs.event_functions.Totaling.{pair_later}

-- more starts visit more
pub pair_more : (e : EventCircuitView) (children : List (ℕ × ℕ)) (starts more : List (Start ℕ)) → ((x : Start ℕ) → Contains starts x → Contains more x) → (p : ℕ × ℕ) → IsVisitedPair e children starts p → IsVisitedPair e children more p
pair_more e children starts more to p k = record { node = k.node; within = k.within; out = k.out; visit = visits_more (side_of e) (Enabled e) starts more to k.visit }

module _ (old new : List (ℕ × ℕ)) (adds : Adds (λ q. Unit {0}) old new) where
  more_nodes : length old ≤ length new
  more_nodes = let e = ap length adds.is in let f = length-append old adds.more in omega (arith, e, f)

  pub path_kept : (n : ℕ) → n ≤ length old → path_of new n ≡ path_of old n
  path_kept n inside = ap (λ (es : List (ℕ × ℕ)). path_of es n) adds.is ∙ path_grows old adds.more n inside

  listed_later : (places more : List (ℕ × ℕ)) → ((p : ℕ × ℕ) → Contains places p → Contains more p) → (path : List ℕ) (v : ℕ) → IsListedAt old places path v → IsListedAt new more path v
  listed_later places more to path v l = record { node = l.node; made = omega (arith, l.made, more_nodes); path_is = path_kept l.node l.made ∙ l.path_is; listed = to (l.node, v) l.listed }

  pub nodes_held : (e : EventCircuitView) (x : Start ℕ) → HoldsNodes e old x → HoldsNodes e new x
  nodes_held e x holds path node = let n = holds path node in (n.0, omega (arith, n.1, more_nodes), path_kept n.0 n.1 ∙ n.2)

  -- nothing more is counted
  pub counted_kept : (e : EventCircuitView) (starts : List (Start ℕ)) (c : CounterView) → HasCounted e old starts c → HasCounted e new starts c
  counted_kept e starts c k = record {
    weighed = k.weighed;
    only = All-weaker (IsVisitedPair e old starts) (IsVisitedPair e new starts) (λ p v. pair_later e old new adds starts p v) c.places k.only;
    all = λ x h out q path visit. listed_later c.places c.places (λ p m. m) path q (k.all x h out q path visit);
  }

  -- one start more is counted
  pub counted_on : (e : EventCircuitView) (x : Start ℕ) (starts : List (Start ℕ)) (c d : CounterView) → IsCounting e x old new c d → HasCountedStart e x new c d → HasCounted e old starts c → HasCounted e new (starts ++ x ∷ []) d
  counted_on e x starts c d counting started k = record {
    weighed = started.on.weighed;
    only = counting.counted (starts ++ x ∷ []) (Contains-append_right starts (x ∷ []) x (Contains-head x []))
        (All-weaker (IsVisitedPair e old starts) (IsVisitedPair e old (starts ++ x ∷ [])) (λ p v. pair_more e old starts (starts ++ x ∷ []) (λ y h. Contains-append_left starts (x ∷ []) y h) p v) c.places k.only);
    all = λ y h. each y (Contains-append_cases starts (x ∷ []) y h);
  }
    where
      each : (y : Start ℕ) → Contains starts y ⊎ Contains (x ∷ []) y → HoldsVisits e new y d.places
      each y (inl h) = λ out q path visit. listed_later c.places d.places (λ p m. adds_contains (λ (z : ℕ × ℕ). Unit {0}) c.places d.places p started.on.more m) path q (k.all y h out q path visit)
      each y (inr h) = subst (λ (z : Start ℕ). HoldsVisits e new z d.places) (only x y h) started.holds

  -- the entries are nodes of starts, and of more starts those that came
  pub only_later : (Old New : List ℕ → Type 0) → ((path : List ℕ) → Old path → New path) → ((k n class : ℕ) → slice_get old k ≡ Some (n, class) → Old (class ∷ path_of old n)) →
      ((k n class : ℕ) → length old ≤ k → slice_get new k ≡ Some (n, class) → New (class ∷ path_of new n)) → IsTree old → (k n class : ℕ) → slice_get new k ≡ Some (n, class) → New (class ∷ path_of new n)
  only_later Old New to before after tree k n class at = go (adds_cases (λ (q : ℕ × ℕ). Unit {0}) old new k (n, class) adds at)
    where
      go : (slice_get old k ≡ Some (n, class)) ⊎ ((length old ≤ k) × Unit {0}) → New (class ∷ path_of new n)
      go (inl here) =
          let low = tree k n class here in
          let inside = slice_get_within old k (n, class) here in
          subst (λ (path : List ℕ). New (class ∷ path)) (sym (path_kept n (omega (arith, low, inside)))) (to (class ∷ path_of old n) (before k n class here))
      go (inr late) = after k n class late.0 at

module _ (children : List (ℕ × ℕ)) where
  -- each node's path is among the paths
  pub path_among : (n : ℕ) → n ≤ length children → Contains (paths_of children) (path_of children n)
  path_among n inside = Contains-get_or (paths_of children) n [] (omega (arith, inside, paths_length children))

  -- no path stands twice
  pub paths_differ : IsTree children → AreDistinct children → AllPairs (λ m n. m ≢ n) (paths_of children)
  paths_differ tree once i j d low inside same =
      let long = paths_length children in
      let at_i : get_or (paths_of children) i d ≡ path_of children i = get_or_default (paths_of children) i d [] (omega (arith, low, inside)) in
      let at_j : get_or (paths_of children) j d ≡ path_of children j = get_or_default (paths_of children) j d [] inside in
      let e = one_node children tree once i j (omega (arith, low, inside, long)) (omega (arith, inside, long)) (sym at_i ∙ (same ∙ at_j)) in
      omega (arith, e, low)

  -- what holds at the root and at each entry holds of each path
  pub each_path : (Holds : List ℕ → Type 0) → Holds [] → IsTree children → ((k n class : ℕ) → slice_get children k ≡ Some (n, class) → Holds (class ∷ path_of children n)) → (path : List ℕ) → Contains (paths_of children) path → Holds path
  each_path Holds root tree each path h = subst Holds (get_or_default (paths_of children) h.0 [] path h.1 ∙ h.2) (at_number h.0 (omega (arith, h.1, paths_length children)))
    where
      at_number : (m : ℕ) → m ≤ length children → Holds (path_of children m)
      at_number zero inside = subst Holds (sym root_is) root
        where
          root_is : path_of children 0 ≡ []
          root_is = path_grows [] children 0 (omega arith)
      at_number (suc k) inside =
          let e = some_at children k (omega (arith, inside)) in
          let next : suc k ≡ k + 1 = omega arith in
          subst Holds (sym (child_path children tree e.0.0 e.0.1 (suc k) (k, next, e.1))) (each k e.0.0 e.0.1 e.1)
