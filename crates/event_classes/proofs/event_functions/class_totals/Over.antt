-- Totals within their numbers, and totals that pass one.
use Rattle.std.proofs.Common.{◌≡◌, ◌∙◌, ◌+◌, ◌<◌, ◌≤◌, ℕ, zero, suc, List, [], ◌∷◌, ◌++◌, length, get_or, slice_get, Some, sym, ap, subst, arith, inl, inr}
use Rattle.std.specs.Prelude.{◌⊎◌}
use Rattle.std.proofs.lemmas.List.Elements.{Contains-append_left, Contains-append_right}
use Rattle.std.proofs.lemmas.Option.{slice_get-get_or, slice_get_within, get_or_from_slice_get}
use Rattle.circuit_theory.specs.Joined.{Left, Right}
use Rattle.circuit_theory.specs.Run.{IsEnabled}
use Rattle.circuit_theory.proofs.Lists.{Contains-head, at_of, of_at}
use Rattle.circuit_theory.specs.EventSizes.{Start}
use Rattle.circuit_theory.specs.EventTotals.{IsNodesOver, IsNodesWithin, StartLatches}
use Rattle.circuit_theory.specs.Frame.{EventSide, IsNode}
use Rattle.flat_net.proofs.Nets.{some_at}
use Rattle.event_nodes.specs.Adds.{Adds}
use Rattle.event_nodes.specs.Nodes.{EventGraphView, IsEventGraph, path_of, paths_of}
use Rattle.event_nodes.proofs.Lists.{adds_cases}
use Rattle.event_nodes.proofs.OnePath.{one_node}
use Rattle.event_nodes.proofs.Paths.{child_path, paths_length}
use Rattle.event_nodes.proofs.Totals.{counted_weight}
use Rattle.edbf_unfold.specs.event_literals.event_walk.Walk.{enable_start}
use Rattle.edbf_unfold.specs.class_queries.Enables.{both_of}
use Rattle.event_classes.specs.event_functions.class_totals.Totals.{HasNodes}
use Rattle.event_classes.specs.event_functions.class_totals.Laws.{TotalsAreWithin, ManyNodesAreOver, HeavyIsOver, FewNodesAreWithin}
use Rattle.event_classes.proofs.event_functions.class_totals.Nodes.{node_more, root_path, path_later, pairs_more}
use Rattle.event_classes.proofs.event_functions.class_totals.Going.{left_moved, right_moved, starts_more, left_start, right_start, left_node, right_node, left_nodes, right_nodes, left_both, right_both}

-- all nodes were made, and they aren't too many
nodes_within : {P : Type 0} (s : EventSide P) (children : List (ℕ × ℕ)) (starts : List (Start P)) → length children < 10000 → HasNodes s children starts → IsNodesWithin s starts 10000
nodes_within s children starts few has = record {
  nodes = paths_of children;
  all = λ node k. let n = has.all node k in of_at (paths_of children) n.0 node (slice_get-get_or (paths_of children) n.0 [] (let e = paths_length children in omega (arith, n.1, e)) ∙ ap Some n.2);
  total = let e = paths_length children in omega (arith, e, few);
}

pub totals_are_within : TotalsAreWithin
totals_are_within a b w taken left right sound_a sound_b is once_left once_right few h = record {
  starts = h.starts;
  are = h.are;
  nodes = nodes_within (both_of a b) w.children h.starts few h.nodes;
  lefts = h.lefts;
  rights = h.rights;
  both = h.both;
  left = left.weight;
  left_is = counted_weight a w h.lefts left sound_a is once_left h.left_counted;
  left_small = h.left_counted.weighed.small;
  right = right.weight;
  right_is = counted_weight b w h.rights right sound_b is once_right h.right_counted;
  right_small = h.right_counted.weighed.small;
}

-- all nodes that were made are reached by the starts with one more
module _ {P : Type 0} (s : EventSide P) (old : List (ℕ × ℕ)) (w : EventGraphView) (is : IsEventGraph w) (adds : Adds (λ q. Unit {0}) old w.children) (parents : (k n class : ℕ) → slice_get old k ≡ Some (n, class) → n ≤ length old) (starts : List (Start P)) (y : Start P) (has : HasNodes s old starts)
    (more : (k n class : ℕ) → length old ≤ k → slice_get w.children k ≡ Some (n, class) → IsNode s (IsEnabled s.circuit) (StartLatches s (y ∷ [])) (class ∷ path_of w.children n)) where
  entry : (k n class : ℕ) → slice_get w.children k ≡ Some (n, class) → (slice_get old k ≡ Some (n, class)) ⊎ ((length old ≤ k) × Unit {0}) → IsNode s (IsEnabled s.circuit) (StartLatches s (starts ++ y ∷ [])) (class ∷ path_of w.children n)
  entry k n class at (inl h) =
      subst (λ (p : List ℕ). IsNode s (IsEnabled s.circuit) (StartLatches s (starts ++ y ∷ [])) (class ∷ p)) (sym (path_later old w.children adds n (parents k n class h)))
      (node_more s starts (starts ++ y ∷ []) (λ x m. Contains-append_left starts (y ∷ []) x m) (class ∷ path_of old n) (has.only k n class h))
  entry k n class at (inr h) = node_more s (y ∷ []) (starts ++ y ∷ []) (λ x m. Contains-append_right starts (y ∷ []) x m) (class ∷ path_of w.children n) (more k n class h.0 at)

  node_at : (n : ℕ) → n ≤ length w.children → IsNode s (IsEnabled s.circuit) (StartLatches s (starts ++ y ∷ [])) (path_of w.children n)
  node_at zero within = subst (IsNode s (IsEnabled s.circuit) (StartLatches s (starts ++ y ∷ []))) (sym (root_path w.children)) tt
  node_at (suc k) within =
      let e = some_at w.children k (omega (arith, within)) in
      let number : suc k ≡ k + 1 = omega arith in
      subst (IsNode s (IsEnabled s.circuit) (StartLatches s (starts ++ y ∷ []))) (sym (child_path w.children is.is_tree e.0.0 e.0.1 (suc k) (k, number, e.1))) (entry k e.0.0 e.0.1 e.1 (adds_cases (λ q. Unit {0}) old w.children k e.0 adds e.1))

  pub nodes_over : 10000 ≤ length w.children → IsNodesOver s (starts ++ y ∷ []) 10000
  nodes_over many = record {
    nodes = paths_of w.children;
    distinct = λ i j d below inside same. apart i j d below inside same;
    each = λ node m.
        let n = at_of (paths_of w.children) node m in
        let low = slice_get_within (paths_of w.children) n.0 node n.1 in
        subst (IsNode s (IsEnabled s.circuit) (StartLatches s (starts ++ y ∷ []))) (get_or_from_slice_get (paths_of w.children) n.0 node [] n.1) (node_at n.0 (let e = paths_length w.children in omega (arith, low, e)));
    total = let e = paths_length w.children in omega (arith, e, many);
  }
    where
      apart : (i j : ℕ) (d : List ℕ) → i < j → j < length (paths_of w.children) → get_or (paths_of w.children) i d ≡ get_or (paths_of w.children) j d → ⊥
      apart i j d below inside same =
          let e = paths_length w.children in
          let first : slice_get (paths_of w.children) i ≡ Some (get_or (paths_of w.children) i d) = slice_get-get_or (paths_of w.children) i d (omega (arith, below, inside)) in
          let second : slice_get (paths_of w.children) j ≡ Some (get_or (paths_of w.children) j d) = slice_get-get_or (paths_of w.children) j d inside in
          let one : i ≡ j = one_node w.children is.is_tree is.once i j (omega (arith, below, inside, e)) (omega (arith, inside, e))
          (get_or_from_slice_get (paths_of w.children) i (get_or (paths_of w.children) i d) [] first ∙ (same ∙ sym (get_or_from_slice_get (paths_of w.children) j (get_or (paths_of w.children) j d) [] second))) in
          omega (arith, one, below)

pub many_nodes_are_over : ManyNodesAreOver
many_nodes_are_over a b old w taken j l left right sound_a sound_b parents is adds many h = (
  λ at from. record {
    starts = h.starts ++ left_moved (enable_start l) ∷ [];
    are = starts_more a b old taken left right sound_a sound_b h (Left l.out.0) (left_moved (enable_start l)) (left_start a b old taken left right sound_a sound_b h j l at);
    over = nodes_over (both_of a b) old w is adds parents h.starts (left_moved (enable_start l)) h.nodes (λ k n class low there. (left_node a b old taken left right sound_a sound_b h j l (class ∷ path_of w.children n)).1 (inl (from k n class low there))) many;
  },
  λ at from. record {
    starts = h.starts ++ right_moved (enable_start l) ∷ [];
    are = starts_more a b old taken left right sound_a sound_b h (Right l.out.0) (right_moved (enable_start l)) (right_start a b old taken left right sound_a sound_b h j l at);
    over = nodes_over (both_of a b) old w is adds parents h.starts (right_moved (enable_start l)) h.nodes (λ k n class low there. (right_node a b old taken left right sound_a sound_b h j l (class ∷ path_of w.children n)).1 (inr (from k n class low there))) many;
  },
)

pub heavy_is_over : HeavyIsOver
heavy_is_over a b old taken j l left right sound_a sound_b h = (
  λ at over. record {
    starts = h.starts ++ left_moved (enable_start l) ∷ [];
    are = starts_more a b old taken left right sound_a sound_b h (Left l.out.0) (left_moved (enable_start l)) (left_start a b old taken left right sound_a sound_b h j l at);
    lefts = h.lefts ++ enable_start l ∷ [];
    rights = h.rights;
    both = left_both a b old taken left right sound_a sound_b h j l;
    over = over (h.lefts ++ enable_start l ∷ []) (Contains-append_right h.lefts (enable_start l ∷ []) (enable_start l) (Contains-head (enable_start l) [])) (pairs_more a old h.lefts (enable_start l) left.places h.left_counted.only);
  },
  λ at over. record {
    starts = h.starts ++ right_moved (enable_start l) ∷ [];
    are = starts_more a b old taken left right sound_a sound_b h (Right l.out.0) (right_moved (enable_start l)) (right_start a b old taken left right sound_a sound_b h j l at);
    lefts = h.lefts;
    rights = h.rights ++ enable_start l ∷ [];
    both = right_both a b old taken left right sound_a sound_b h j l;
    over = over (h.rights ++ enable_start l ∷ []) (Contains-append_right h.rights (enable_start l ∷ []) (enable_start l) (Contains-head (enable_start l) [])) (pairs_more b old h.rights (enable_start l) right.places h.right_counted.only);
  },
)

pub few_nodes_are_within : FewNodesAreWithin
few_nodes_are_within a b old new taken j l left right sound_a sound_b parents adds few h = (
  λ at made holds. record {
    starts = h.starts ++ left_moved (enable_start l) ∷ [];
    are = starts_more a b old taken left right sound_a sound_b h (Left l.out.0) (left_moved (enable_start l)) (left_start a b old taken left right sound_a sound_b h j l at);
    few = nodes_within (both_of a b) new (h.starts ++ left_moved (enable_start l) ∷ []) few (left_nodes a b old taken left right sound_a sound_b h j l new parents adds made holds);
  },
  λ at made holds. record {
    starts = h.starts ++ right_moved (enable_start l) ∷ [];
    are = starts_more a b old taken left right sound_a sound_b h (Right l.out.0) (right_moved (enable_start l)) (right_start a b old taken left right sound_a sound_b h j l at);
    few = nodes_within (both_of a b) new (h.starts ++ right_moved (enable_start l) ∷ []) few (right_nodes a b old taken left right sound_a sound_b h j l new parents adds made holds);
  },
)
