-- What was counted of both circuits goes on with a signal of one of them, or why it doesn't.
use Rattle.std.proofs.Common.{◌≡◌, ◌≢◌, ◌∙◌, ◌≤◌, ℕ, Bool, false, List, [], ◌∷◌, ◌++◌, length, slice_get, Some, sym, subst, arith, inl, inr}
use Rattle.std.specs.Prelude.{◌⊎◌}
use Rattle.std.specs.List.{All, Contains}
use Rattle.std.proofs.lemmas.List.Elements.{All-weaker, Contains-append_cases, Contains-append_left, Contains-append_right}
use Rattle.circuit_theory.specs.declared.Side.TheVariants.{A, B}
use Rattle.circuit_theory.specs.Circuit.{Circuit, Meets}
use Rattle.circuit_theory.specs.Depth.{LatchesHaveDepths}
use Rattle.circuit_theory.specs.Joined.{Either, Left, Right, joined, beside}
use Rattle.circuit_theory.specs.Net.{IsNet}
use Rattle.circuit_theory.specs.Run.{IsEnabled}
use Rattle.circuit_theory.proofs.Lists.{Contains-head, only}
use Rattle.circuit_laws.proofs.JoinedParts.{left_part, right_part, replace_left, replace_right, meets_both}
use Rattle.circuit_laws.proofs.NetLaws.{net_value, net_value-extends}
use Rattle.circuit_theory.specs.EventSizes.{Start, IsEventOver}
use Rattle.circuit_theory.specs.EventTotals.{StartLatches}
use Rattle.circuit_theory.specs.Frame.{EventSide, IsNode}
use Rattle.class_search.specs.flat_net.View.{circuit_of}
use Rattle.class_search.proofs.flat_net.Nets.{sound_is_net}
use Rattle.event_nodes.specs.Nodes.{EventGraphView, IsEventGraph, paths_of, path_of}
use Rattle.event_nodes.specs.View.{side_of, Enabled}
use Rattle.event_nodes.specs.Visited.{CounterView, HoldsNodes, IsVisitedPair}
use Rattle.event_nodes.proofs.Paths.{path_grows, paths_length}
use Rattle.edbf_unfold.specs.event_literals.event_walk.Walk.{HasCountedStart, IsCounting}
use Rattle.event_classes.specs.event_functions.Functions.{signal_start}
use Rattle.event_classes.specs.event_functions.Refused.{HasFewNodes}
use Rattle.edbf_unfold.specs.class_queries.Enables.{both_of, class_map}
use Rattle.edbf_unfold.specs.class_queries.Laws.{AreKept}
use Rattle.event_form.specs.event_agreement.pair_events.Counted.{moved_start, both_starts, HaveCounted, GoOnCounting, AreTooMany, IsTooLarge}
use Rattle.event_form.specs.event_agreement.pair_events.View.{EventsView, side_of_both}
use Rattle.event_form.proofs.event_agreement.pair_events.Starts.{node_alone, node_more, node_beside, node_itself, of_left, of_right, of_one, both_more}
use Rattle.event_form.proofs.event_agreement.pair_events.Counting.{pair_more, nodes_held, counted_kept, counted_on, only_later, path_among, paths_differ, each_path}

module _ (e : EventsView) (kept : AreKept e.left e.right e.events) where
  abbrev ca : Circuit ℕ
  ca = circuit_of e.left.net

  abbrev cb : Circuit ℕ
  cb = circuit_of e.right.net

  na : IsNet ca (length e.left.net.drivers)
  na = sound_is_net e.left.net kept.left_sound

  nb : IsNet cb (length e.right.net.drivers)
  nb = sound_is_net e.right.net kept.right_sound

  some : Either ℕ ℕ → Bool
  some = beside (net_value ca (λ p. false)) (net_value cb (λ q. false))

  meets : Meets (joined ca cb) some
  unfolding some
  meets = meets_both ca cb (net_value ca (λ p. false)) (net_value cb (λ q. false)) (net_value-extends ca (length e.left.net.drivers) na (λ p. false)).meets (net_value-extends cb (length e.right.net.drivers) nb (λ q. false)).meets

  abbrev s : EventSide (Either ℕ ℕ)
  s = side_of_both e

  -- the node is one of these starts, where both circuits stand side by side
  abbrev NodeOf : List (Start (Either ℕ ℕ)) → List ℕ → Type 0
  NodeOf starts path = IsNode s (IsEnabled s.circuit) (StartLatches s starts) path

  left_beside : (x : Start ℕ) (starts : List (Start (Either ℕ ℕ))) → Contains starts (moved_start Left x) → (path : List ℕ) → IsNode (side_of e.left) (Enabled e.left) (StartLatches (side_of e.left) (x ∷ [])) path → NodeOf starts path
  left_beside x starts h path node = node_beside ca (joined ca cb) Left (replace_left ca cb) (left_part ca cb) some meets e.left.order (e.left.order ++ e.right.order) (class_map e.left e.right) x starts h path node

  left_itself : (x : Start ℕ) (path : List ℕ) → NodeOf (moved_start Left x ∷ []) path → IsNode (side_of e.left) (Enabled e.left) (StartLatches (side_of e.left) (x ∷ [])) path
  left_itself x path node = node_itself ca (joined ca cb) Left (replace_left ca cb) (left_part ca cb) some meets e.left.order (e.left.order ++ e.right.order) (class_map e.left e.right) x path node

  right_beside : (x : Start ℕ) (starts : List (Start (Either ℕ ℕ))) → Contains starts (moved_start Right x) → (path : List ℕ) → IsNode (side_of e.right) (Enabled e.right) (StartLatches (side_of e.right) (x ∷ [])) path → NodeOf starts path
  right_beside x starts h path node = node_beside cb (joined ca cb) Right (replace_right ca cb) (right_part ca cb) some meets e.right.order (e.left.order ++ e.right.order) (class_map e.left e.right) x starts h path node

  right_itself : (x : Start ℕ) (path : List ℕ) → NodeOf (moved_start Right x ∷ []) path → IsNode (side_of e.right) (Enabled e.right) (StartLatches (side_of e.right) (x ∷ [])) path
  right_itself x path node = node_itself cb (joined ca cb) Right (replace_right ca cb) (right_part ca cb) some meets e.right.order (e.left.order ++ e.right.order) (class_map e.left e.right) x path node

  -- a node that both circuits' starts reach was made, where those that each start reaches were
  pub all_made : (children : List (ℕ × ℕ)) (left right : List (Start ℕ)) → ((x : Start ℕ) → Contains left x → HoldsNodes e.left children x) → ((x : Start ℕ) → Contains right x → HoldsNodes e.right children x) → (path : List ℕ) → NodeOf (both_starts left right) path → Contains (paths_of children) path
  all_made children left right on_left on_right [] node = subst (Contains (paths_of children)) (path_grows [] children 0 (omega arith)) (path_among children 0 (omega arith))
  all_made children left right on_left on_right (k ∷ rest) node = go (node_alone s (IsEnabled s.circuit) (both_starts left right) k rest node)
    where
      found : (n : ℕ) × (n ≤ length children) × (path_of children n ≡ k ∷ rest) → Contains (paths_of children) (k ∷ rest)
      found n = subst (Contains (paths_of children)) n.2 (path_among children n.0 n.1)

      alone : (y : Start (Either ℕ ℕ)) → NodeOf (y ∷ []) (k ∷ rest) → ((x : Start ℕ) × Contains left x × (moved_start Left x ≡ y)) ⊎ ((x : Start ℕ) × Contains right x × (moved_start Right x ≡ y)) → Contains (paths_of children) (k ∷ rest)
      alone y own (inl h) = found (on_left h.0 h.1 (k ∷ rest) (left_itself h.0 (k ∷ rest) (subst (λ (z : Start (Either ℕ ℕ)). NodeOf (z ∷ []) (k ∷ rest)) (sym h.2) own)))
      alone y own (inr h) = found (on_right h.0 h.1 (k ∷ rest) (right_itself h.0 (k ∷ rest) (subst (λ (z : Start (Either ℕ ℕ)). NodeOf (z ∷ []) (k ∷ rest)) (sym h.2) own)))

      go : (y : Start (Either ℕ ℕ)) × Contains (both_starts left right) y × NodeOf (y ∷ []) (k ∷ rest) → Contains (paths_of children) (k ∷ rest)
      go y = alone y.0 y.2 (of_one left right y.0 y.1)

  module _ (w : EventGraphView) (d : CounterView) (p : ℕ) (counting : IsCounting e.left (signal_start p) e.events.children w.children e.left_count d) where
    abbrev left_start : Start ℕ
    left_start = signal_start p

    module _ (left right : List (Start ℕ)) (k : HaveCounted e left right) where
      abbrev left_more : List (Start ℕ)
      left_more = left ++ left_start ∷ []

      left_own : Contains left_more left_start
      left_own = Contains-append_right left (left_start ∷ []) left_start (Contains-head left_start [])

      left_old : (x : Start ℕ) → Contains left x → Contains left_more x
      left_old x h = Contains-append_left left (left_start ∷ []) x h

      left_only : (i n class : ℕ) → slice_get w.children i ≡ Some (n, class) → NodeOf (both_starts left_more right) (class ∷ path_of w.children n)
      left_only = only_later e.events.children w.children counting.more (NodeOf (both_starts left right)) (NodeOf (both_starts left_more right))
          (λ path node. node_more s (IsEnabled s.circuit) (both_starts left right) (both_starts left_more right) (λ y h. both_more left right left_more right left_old (λ x m. m) y h) path node) k.only
          (λ i n class late at. left_beside left_start (both_starts left_more right) (of_left left_more right left_start left_own) (class ∷ path_of w.children n) (counting.nodes i n class late at)) kept.events.is_tree

      left_nodes_of : HoldsNodes e.left w.children left_start → (x : Start ℕ) → Contains left_more x → HoldsNodes e.left w.children x
      left_nodes_of own x h = go (Contains-append_cases left (left_start ∷ []) x h)
        where
          go : Contains left x ⊎ Contains (left_start ∷ []) x → HoldsNodes e.left w.children x
          go (inl m) = nodes_held e.events.children w.children counting.more e.left x (k.left_nodes x m)
          go (inr m) = subst (HoldsNodes e.left w.children) (only left_start x m) own

      left_others : (x : Start ℕ) → Contains right x → HoldsNodes e.right w.children x
      left_others x h = nodes_held e.events.children w.children counting.more e.right x (k.right_nodes x h)

    pub left_goes_on : HasCountedStart e.left left_start w.children e.left_count d → GoOnCounting A p e (record e { events = w; left_count = d })
    left_goes_on started left right k = record {
      left_counted = counted_on e.events.children w.children counting.more e.left left_start left e.left_count d counting started k.left_counted;
      right_counted = counted_kept e.events.children w.children counting.more e.right right e.right_count k.right_counted;
      left_nodes = left_nodes_of left right k started.nodes;
      right_nodes = left_others left right k;
      only = left_only left right k;
    }

    pub left_many : IsEventGraph w → 10000 ≤ length w.children → AreTooMany A p e
    left_many is many left right k = record {
      nodes = paths_of w.children;
      distinct = paths_differ w.children is.is_tree is.once;
      each = each_path w.children (NodeOf (both_starts (left ++ left_start ∷ []) right)) tt is.is_tree (left_only left right k);
      total = omega (arith, many, paths_length w.children);
    }

    pub left_large : HasFewNodes e.left w.children left_start → LatchesHaveDepths ca (Enabled e.left) →
        ((starts : List (Start ℕ)) → Contains starts left_start → All (IsVisitedPair e.left e.events.children starts) e.left_count.places → IsEventOver (side_of e.left) (Enabled e.left) starts 2000000) → IsTooLarge A p e
    left_large few depths over = record {
      over = λ left right k. over (left ++ left_start ∷ []) (left_own left right k)
          (All-weaker (IsVisitedPair e.left e.events.children left) (IsVisitedPair e.left e.events.children (left ++ left_start ∷ [])) (λ q v. pair_more e.left e.events.children left (left ++ left_start ∷ []) (left_old left right k) q v) e.left_count.places k.left_counted.only);
      within = λ left right k. record {
        nodes = paths_of w.children;
        all = all_made w.children (left ++ left_start ∷ []) right (left_nodes_of left right k (few.all depths)) (left_others left right k);
        total = omega (arith, few.few, paths_length w.children);
      };
    }

  module _ (w : EventGraphView) (d : CounterView) (p : ℕ) (counting : IsCounting e.right (signal_start p) e.events.children w.children e.right_count d) where
    abbrev right_start : Start ℕ
    right_start = signal_start p

    module _ (left right : List (Start ℕ)) (k : HaveCounted e left right) where
      abbrev right_more : List (Start ℕ)
      right_more = right ++ right_start ∷ []

      right_own : Contains right_more right_start
      right_own = Contains-append_right right (right_start ∷ []) right_start (Contains-head right_start [])

      right_old : (x : Start ℕ) → Contains right x → Contains right_more x
      right_old x h = Contains-append_left right (right_start ∷ []) x h

      right_only : (i n class : ℕ) → slice_get w.children i ≡ Some (n, class) → NodeOf (both_starts left right_more) (class ∷ path_of w.children n)
      right_only = only_later e.events.children w.children counting.more (NodeOf (both_starts left right)) (NodeOf (both_starts left right_more))
          (λ path node. node_more s (IsEnabled s.circuit) (both_starts left right) (both_starts left right_more) (λ y h. both_more left right left right_more (λ x m. m) right_old y h) path node) k.only
          (λ i n class late at. right_beside right_start (both_starts left right_more) (of_right left right_more right_start right_own) (class ∷ path_of w.children n) (counting.nodes i n class late at)) kept.events.is_tree

      right_nodes_of : HoldsNodes e.right w.children right_start → (x : Start ℕ) → Contains right_more x → HoldsNodes e.right w.children x
      right_nodes_of own x h = go (Contains-append_cases right (right_start ∷ []) x h)
        where
          go : Contains right x ⊎ Contains (right_start ∷ []) x → HoldsNodes e.right w.children x
          go (inl m) = nodes_held e.events.children w.children counting.more e.right x (k.right_nodes x m)
          go (inr m) = subst (HoldsNodes e.right w.children) (only right_start x m) own

      right_others : (x : Start ℕ) → Contains left x → HoldsNodes e.left w.children x
      right_others x h = nodes_held e.events.children w.children counting.more e.left x (k.left_nodes x h)

    pub right_goes_on : HasCountedStart e.right right_start w.children e.right_count d → GoOnCounting B p e (record e { events = w; right_count = d })
    right_goes_on started left right k = record {
      right_counted = counted_on e.events.children w.children counting.more e.right right_start right e.right_count d counting started k.right_counted;
      left_counted = counted_kept e.events.children w.children counting.more e.left left e.left_count k.left_counted;
      right_nodes = right_nodes_of left right k started.nodes;
      left_nodes = right_others left right k;
      only = right_only left right k;
    }

    pub right_many : IsEventGraph w → 10000 ≤ length w.children → AreTooMany B p e
    right_many is many left right k = record {
      nodes = paths_of w.children;
      distinct = paths_differ w.children is.is_tree is.once;
      each = each_path w.children (NodeOf (both_starts left (right ++ right_start ∷ []))) tt is.is_tree (right_only left right k);
      total = omega (arith, many, paths_length w.children);
    }

    pub right_large : HasFewNodes e.right w.children right_start → LatchesHaveDepths cb (Enabled e.right) →
        ((starts : List (Start ℕ)) → Contains starts right_start → All (IsVisitedPair e.right e.events.children starts) e.right_count.places → IsEventOver (side_of e.right) (Enabled e.right) starts 2000000) → IsTooLarge B p e
    right_large few depths over = record {
      over = λ left right k. over (right ++ right_start ∷ []) (right_own left right k)
          (All-weaker (IsVisitedPair e.right e.events.children right) (IsVisitedPair e.right e.events.children (right ++ right_start ∷ [])) (λ q v. pair_more e.right e.events.children right (right ++ right_start ∷ []) (right_old left right k) q v) e.right_count.places k.right_counted.only);
      within = λ left right k. record {
        nodes = paths_of w.children;
        all = all_made w.children left (right ++ right_start ∷ []) (right_others left right k) (right_nodes_of left right k (few.all depths));
        total = omega (arith, few.few, paths_length w.children);
      };
    }
