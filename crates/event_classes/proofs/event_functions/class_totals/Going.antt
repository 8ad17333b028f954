-- Totals go on.
use Rattle.std.proofs.Common.{◌≡◌, ◌∙◌, ◌≤◌, ℕ, zero, suc, List, [], ◌∷◌, ◌++◌, length, slice_get, Some, refl, sym, ap, subst, arith, inl, inr, append-nil}
use Rattle.std.specs.Prelude.{◌⊎◌, ◌↔◌}
use Rattle.std.specs.List.{Contains}
use Rattle.std.proofs.lemmas.List.Elements.{All-nil, Contains-append_cases, Contains-append_left, Contains-append_right}
use Rattle.circuit_theory.specs.Circuit.{Circuit}
use Rattle.circuit_theory.specs.Joined.{Either, Left, Right, joined}
use Rattle.circuit_theory.specs.Run.{IsEnabled}
use Rattle.circuit_theory.proofs.Lists.{Contains-head, only, zip_push}
use Rattle.circuit_laws.proofs.JoinedParts.{left_part, right_part, replace_left, replace_right}
use Rattle.circuit_laws.proofs.Parts.{latch_up}
use Rattle.circuit_theory.specs.EventSizes.{Start}
use Rattle.circuit_theory.specs.EventTotals.{AreStarts, IsEnableStart, StartLatches}
use Rattle.circuit_theory.specs.Frame.{EventSide, IsNode}
use Rattle.flat_net.specs.declared.parts.LatchAt.{LatchAt}
use Rattle.flat_net.specs.Sound.{IsSound}
use Rattle.flat_net.specs.View.{circuit_of}
use Rattle.flat_net.proofs.Nets.{latch_stands, sound_is_net}
use Rattle.event_nodes.specs.Adds.{Adds}
use Rattle.event_nodes.specs.Nodes.{path_of}
use Rattle.event_nodes.specs.View.{EventCircuitView, side_of, Enabled}
use Rattle.event_nodes.specs.Visited.{CounterView, IsVisitedPair, AreNodesFrom, HoldsNodes}
use Rattle.edbf_unfold.specs.event_literals.event_walk.Walk.{IsCounting, HasCountedStart, enable_start}
use Rattle.edbf_unfold.specs.class_queries.Enables.{both_of, class_map}
use Rattle.circuit_laws.specs.reset_laws.class_extension.Sides.{AreStartsOfBoth, IsEnableAmong, moved_start}
use Rattle.circuit_laws.specs.reset_laws.class_extension.Laws.{IsNextGiven, UnfoldAlike}
use Rattle.circuit_laws.proofs.reset_laws.class_extension.Sides.{sides_reach_nodes_in_nets}
use Rattle.circuit_laws.proofs.reset_laws.class_extension.Visits.{visits_stay_in_nets}
use Rattle.event_classes.specs.event_functions.class_totals.Totals.{HaveCounted, HasNodes}
use Rattle.event_classes.specs.event_functions.class_totals.Laws.{TotalsBegin, TotalsStay, TotalsGoOn}
use Rattle.event_classes.proofs.event_functions.class_totals.Nodes.{node_none, root_path, nodes_more, counted_later, counted_more, counted_alike}

-- the start of a circuit, as one of both
abbrev pub left_moved : Start ℕ → Start (Either ℕ ℕ)
left_moved x = moved_start {R = Either ℕ ℕ} Left x

abbrev pub right_moved : Start ℕ → Start (Either ℕ ℕ)
right_moved x = moved_start {R = Either ℕ ℕ} Right x

nothing_in : {X C : Type 0} (x : X) → Contains [] x → C
nothing_in x h = absurd (omega (arith, h.1))

pub totals_begin : TotalsBegin
totals_begin a b = record {
  starts = [];
  are = record { enables = []; each = tt; are = refl };
  lefts = [];
  rights = [];
  both = record { left = λ x h. nothing_in x h; right = λ x h. nothing_in x h; all = λ y h. nothing_in y h };
  left_among = λ x h. nothing_in x h;
  right_among = λ x h. nothing_in x h;
  left_counted = record { weighed = record { sum = refl; small = omega arith; few = omega arith }; only = All-nil (IsVisitedPair a [] []); all = λ x h. nothing_in x h };
  right_counted = record { weighed = record { sum = refl; small = omega arith; few = omega arith }; only = All-nil (IsVisitedPair b [] []); all = λ x h. nothing_in x h };
  nodes = record { only = λ k n class at. absurd (none k (n, class) at); all = λ node h. (0, omega arith, root_path [] ∙ sym (node_none (both_of a b) node h)) };
}
  where
    none : {X : Type 0} (i : ℕ) (y : X) → slice_get [] i ≡ Some y → ⊥
    none zero y q = cc
    none (suc i) y q = cc

module _ (a b : EventCircuitView) (ks ls : List ℕ) (children : List (ℕ × ℕ)) (taken rest : List (Either ℕ ℕ)) (u : Either ℕ ℕ) (left right : CounterView)
    (next : IsNextGiven (circuit_of a.net) (circuit_of b.net) (length a.net.drivers) (length b.net.drivers) a.order b.order (class_map a b) (class_map (record a { classes = ks }) (record b { classes = ls })) taken rest u) (h : HaveCounted a b children (taken ++ u ∷ []) left right) where
  abbrev S : EventSide (Either ℕ ℕ)
  S = both_of a b

  abbrev T : EventSide (Either ℕ ℕ)
  T = both_of (record a { classes = ks }) (record b { classes = ls })

  left_alike : (zs : List (Start ℕ)) → ((x : Start ℕ) → Contains zs x → Contains h.lefts x) → UnfoldAlike (side_of a) (side_of (record a { classes = ks })) zs
  left_alike zs among = (visits_stay_in_nets (circuit_of a.net) (circuit_of b.net) (length a.net.drivers) (length b.net.drivers) a.order b.order (class_map a b) (class_map (record a { classes = ks }) (record b { classes = ls })) taken rest u next zs).0 (λ x m. h.left_among x (among x m))

  right_alike : (zs : List (Start ℕ)) → ((x : Start ℕ) → Contains zs x → Contains h.rights x) → UnfoldAlike (side_of b) (side_of (record b { classes = ls })) zs
  right_alike zs among = (visits_stay_in_nets (circuit_of a.net) (circuit_of b.net) (length a.net.drivers) (length b.net.drivers) a.order b.order (class_map a b) (class_map (record a { classes = ks }) (record b { classes = ls })) taken rest u next zs).1 (λ x m. h.right_among x (among x m))

  -- each is a node before and after
  node_to : (node : List ℕ) → IsNode S (IsEnabled S.circuit) (StartLatches S h.starts) node → IsNode T (IsEnabled T.circuit) (StartLatches T h.starts) node
  node_to node k = go ((sides_reach_nodes_in_nets (circuit_of a.net) (circuit_of b.net) (length a.net.drivers) (length b.net.drivers) a.order b.order (class_map a b) next.left_net next.right_net h.starts h.lefts h.rights h.both node).0 k)
    where
      go : IsNode (side_of a) (Enabled a) (StartLatches (side_of a) h.lefts) node ⊎ IsNode (side_of b) (Enabled b) (StartLatches (side_of b) h.rights) node → IsNode T (IsEnabled T.circuit) (StartLatches T h.starts) node
      go (inl m) = (sides_reach_nodes_in_nets (circuit_of a.net) (circuit_of b.net) (length a.net.drivers) (length b.net.drivers) a.order b.order (class_map (record a { classes = ks }) (record b { classes = ls })) next.left_net next.right_net h.starts h.lefts h.rights h.both node).1 (inl (((left_alike h.lefts (λ x c. c)).nodes node).0 m))
      go (inr m) = (sides_reach_nodes_in_nets (circuit_of a.net) (circuit_of b.net) (length a.net.drivers) (length b.net.drivers) a.order b.order (class_map (record a { classes = ks }) (record b { classes = ls })) next.left_net next.right_net h.starts h.lefts h.rights h.both node).1 (inr (((right_alike h.rights (λ x c. c)).nodes node).0 m))

  node_back : (node : List ℕ) → IsNode T (IsEnabled T.circuit) (StartLatches T h.starts) node → IsNode S (IsEnabled S.circuit) (StartLatches S h.starts) node
  node_back node k = go ((sides_reach_nodes_in_nets (circuit_of a.net) (circuit_of b.net) (length a.net.drivers) (length b.net.drivers) a.order b.order (class_map (record a { classes = ks }) (record b { classes = ls })) next.left_net next.right_net h.starts h.lefts h.rights h.both node).0 k)
    where
      go : IsNode (side_of (record a { classes = ks })) (Enabled a) (StartLatches (side_of (record a { classes = ks })) h.lefts) node ⊎ IsNode (side_of (record b { classes = ls })) (Enabled b) (StartLatches (side_of (record b { classes = ls })) h.rights) node → IsNode S (IsEnabled S.circuit) (StartLatches S h.starts) node
      go (inl m) = (sides_reach_nodes_in_nets (circuit_of a.net) (circuit_of b.net) (length a.net.drivers) (length b.net.drivers) a.order b.order (class_map a b) next.left_net next.right_net h.starts h.lefts h.rights h.both node).1 (inl (((left_alike h.lefts (λ x c. c)).nodes node).1 m))
      go (inr m) = (sides_reach_nodes_in_nets (circuit_of a.net) (circuit_of b.net) (length a.net.drivers) (length b.net.drivers) a.order b.order (class_map a b) next.left_net next.right_net h.starts h.lefts h.rights h.both node).1 (inr (((right_alike h.rights (λ x c. c)).nodes node).1 m))

  stays : HaveCounted (record a { classes = ks }) (record b { classes = ls }) children (taken ++ u ∷ []) left right
  stays = record {
    starts = h.starts;
    are = record { enables = h.are.enables; each = h.are.each; are = h.are.are };
    lefts = h.lefts;
    rights = h.rights;
    both = h.both;
    left_among = h.left_among;
    right_among = h.right_among;
    left_counted = counted_alike a ks children h.lefts left left_alike h.left_counted;
    right_counted = counted_alike b ls children h.rights right right_alike h.right_counted;
    nodes = record { only = λ k n class at. node_to (class ∷ path_of children n) (h.nodes.only k n class at); all = λ node k. h.nodes.all node (node_back node k) };
  }

pub totals_stay : TotalsStay
totals_stay a b ks ls children taken rest u left right next h = stays a b ks ls children taken rest u left right next h

-- one start more, of the one circuit or of the other
module _ (a b : EventCircuitView) (old : List (ℕ × ℕ)) (taken : List (Either ℕ ℕ)) (left right : CounterView) (sound_a : IsSound a.net) (sound_b : IsSound b.net) (h : HaveCounted a b old taken left right) where
  abbrev Both : EventSide (Either ℕ ℕ)
  Both = both_of a b

  pub starts_more : (u : Either ℕ ℕ) (y : Start (Either ℕ ℕ)) → IsEnableStart Both u y → AreStarts Both (taken ++ u ∷ []) [] (h.starts ++ y ∷ [])
  starts_more u y is = record {
    enables = h.are.enables ++ y ∷ [];
    each = zip_push (IsEnableStart Both) taken h.are.enables u y h.are.each is;
    are = ap (λ (zs : List (Start (Either ℕ ℕ))). zs ++ y ∷ []) (h.are.are ∙ append-nil h.are.enables) ∙ sym (append-nil (h.are.enables ++ y ∷ []));
  }

  among_more : (c : Circuit ℕ) (place : ℕ → Either ℕ ℕ) (u : Either ℕ ℕ) (x : Start ℕ) → IsEnableAmong c place taken x → IsEnableAmong c place (taken ++ u ∷ []) x
  among_more c place u x k = (k.0, k.1, k.2, k.3, Contains-append_left taken (u ∷ []) (place k.1) k.4)

  module _ (j : ℕ) (l : LatchAt) where
    pub left_start : slice_get a.net.latches j ≡ Some l → IsEnableStart Both (Left l.out.0) (left_moved (enable_start l))
    left_start at = (refl, (l.name, latch_up (circuit_of a.net) (joined (circuit_of a.net) (circuit_of b.net)) Left (replace_left (circuit_of a.net) (circuit_of b.net)) (left_part (circuit_of a.net) (circuit_of b.net)) l.name l.out.0 l.next.0 (latch_stands a.net j l at)))

    pub right_start : slice_get b.net.latches j ≡ Some l → IsEnableStart Both (Right l.out.0) (right_moved (enable_start l))
    right_start at = (refl, (l.name, latch_up (circuit_of b.net) (joined (circuit_of a.net) (circuit_of b.net)) Right (replace_right (circuit_of a.net) (circuit_of b.net)) (right_part (circuit_of a.net) (circuit_of b.net)) l.name l.out.0 l.next.0 (latch_stands b.net j l at)))

    -- what one of them reaches alone
    pub left_node : (node : List ℕ) → IsNode Both (IsEnabled Both.circuit) (StartLatches Both (left_moved (enable_start l) ∷ [])) node ↔ (IsNode (side_of a) (Enabled a) (StartLatches (side_of a) (enable_start l ∷ [])) node ⊎ IsNode (side_of b) (Enabled b) (StartLatches (side_of b) []) node)
    left_node node = sides_reach_nodes_in_nets (circuit_of a.net) (circuit_of b.net) (length a.net.drivers) (length b.net.drivers) a.order b.order (class_map a b) (sound_is_net a.net sound_a) (sound_is_net b.net sound_b) (left_moved (enable_start l) ∷ []) (enable_start l ∷ []) [] (record {
      left = λ x m. subst (λ (z : Start ℕ). Contains (left_moved (enable_start l) ∷ []) (left_moved z)) (only (enable_start l) x m) (Contains-head (left_moved (enable_start l)) []);
      right = λ x m. nothing_in x m;
      all = λ y m. inl (enable_start l, Contains-head (enable_start l) [], sym (only (left_moved (enable_start l)) y m));
    }) node

    pub right_node : (node : List ℕ) → IsNode Both (IsEnabled Both.circuit) (StartLatches Both (right_moved (enable_start l) ∷ [])) node ↔ (IsNode (side_of a) (Enabled a) (StartLatches (side_of a) []) node ⊎ IsNode (side_of b) (Enabled b) (StartLatches (side_of b) (enable_start l ∷ [])) node)
    right_node node = sides_reach_nodes_in_nets (circuit_of a.net) (circuit_of b.net) (length a.net.drivers) (length b.net.drivers) a.order b.order (class_map a b) (sound_is_net a.net sound_a) (sound_is_net b.net sound_b) (right_moved (enable_start l) ∷ []) [] (enable_start l ∷ []) (record {
      left = λ x m. nothing_in x m;
      right = λ x m. subst (λ (z : Start ℕ). Contains (right_moved (enable_start l) ∷ []) (right_moved z)) (only (enable_start l) x m) (Contains-head (right_moved (enable_start l)) []);
      all = λ y m. inr (enable_start l, Contains-head (enable_start l) [], sym (only (right_moved (enable_start l)) y m));
    }) node

    pub left_both : AreStartsOfBoth (h.starts ++ left_moved (enable_start l) ∷ []) (h.lefts ++ enable_start l ∷ []) h.rights
    left_both = record {
      left = λ x m. to x (Contains-append_cases h.lefts (enable_start l ∷ []) x m);
      right = λ x m. Contains-append_left h.starts (left_moved (enable_start l) ∷ []) (right_moved x) (h.both.right x m);
      all = λ y m. from y (Contains-append_cases h.starts (left_moved (enable_start l) ∷ []) y m);
    }
      where
        to : (x : Start ℕ) → Contains h.lefts x ⊎ Contains (enable_start l ∷ []) x → Contains (h.starts ++ left_moved (enable_start l) ∷ []) (left_moved x)
        to x (inl m) = Contains-append_left h.starts (left_moved (enable_start l) ∷ []) (left_moved x) (h.both.left x m)
        to x (inr m) = Contains-append_right h.starts (left_moved (enable_start l) ∷ []) (left_moved x) (subst (λ (z : Start ℕ). Contains (left_moved (enable_start l) ∷ []) (left_moved z)) (only (enable_start l) x m) (Contains-head (left_moved (enable_start l)) []))

        old_of : (y : Start (Either ℕ ℕ)) → ((x : Start ℕ) × Contains h.lefts x × (y ≡ left_moved x)) ⊎ ((x : Start ℕ) × Contains h.rights x × (y ≡ right_moved x)) →
            ((x : Start ℕ) × Contains (h.lefts ++ enable_start l ∷ []) x × (y ≡ left_moved x)) ⊎ ((x : Start ℕ) × Contains h.rights x × (y ≡ right_moved x))
        old_of y (inl (x, m, e)) = inl (x, Contains-append_left h.lefts (enable_start l ∷ []) x m, e)
        old_of y (inr k) = inr k

        from : (y : Start (Either ℕ ℕ)) → Contains h.starts y ⊎ Contains (left_moved (enable_start l) ∷ []) y →
            ((x : Start ℕ) × Contains (h.lefts ++ enable_start l ∷ []) x × (y ≡ left_moved x)) ⊎ ((x : Start ℕ) × Contains h.rights x × (y ≡ right_moved x))
        from y (inl m) = old_of y (h.both.all y m)
        from y (inr m) = inl (enable_start l, Contains-append_right h.lefts (enable_start l ∷ []) (enable_start l) (Contains-head (enable_start l) []), sym (only (left_moved (enable_start l)) y m))

    pub right_both : AreStartsOfBoth (h.starts ++ right_moved (enable_start l) ∷ []) h.lefts (h.rights ++ enable_start l ∷ [])
    right_both = record {
      left = λ x m. Contains-append_left h.starts (right_moved (enable_start l) ∷ []) (left_moved x) (h.both.left x m);
      right = λ x m. to x (Contains-append_cases h.rights (enable_start l ∷ []) x m);
      all = λ y m. from y (Contains-append_cases h.starts (right_moved (enable_start l) ∷ []) y m);
    }
      where
        to : (x : Start ℕ) → Contains h.rights x ⊎ Contains (enable_start l ∷ []) x → Contains (h.starts ++ right_moved (enable_start l) ∷ []) (right_moved x)
        to x (inl m) = Contains-append_left h.starts (right_moved (enable_start l) ∷ []) (right_moved x) (h.both.right x m)
        to x (inr m) = Contains-append_right h.starts (right_moved (enable_start l) ∷ []) (right_moved x) (subst (λ (z : Start ℕ). Contains (right_moved (enable_start l) ∷ []) (right_moved z)) (only (enable_start l) x m) (Contains-head (right_moved (enable_start l)) []))

        old_of : (y : Start (Either ℕ ℕ)) → ((x : Start ℕ) × Contains h.lefts x × (y ≡ left_moved x)) ⊎ ((x : Start ℕ) × Contains h.rights x × (y ≡ right_moved x)) →
            ((x : Start ℕ) × Contains h.lefts x × (y ≡ left_moved x)) ⊎ ((x : Start ℕ) × Contains (h.rights ++ enable_start l ∷ []) x × (y ≡ right_moved x))
        old_of y (inl k) = inl k
        old_of y (inr (x, m, e)) = inr (x, Contains-append_left h.rights (enable_start l ∷ []) x m, e)

        from : (y : Start (Either ℕ ℕ)) → Contains h.starts y ⊎ Contains (right_moved (enable_start l) ∷ []) y →
            ((x : Start ℕ) × Contains h.lefts x × (y ≡ left_moved x)) ⊎ ((x : Start ℕ) × Contains (h.rights ++ enable_start l ∷ []) x × (y ≡ right_moved x))
        from y (inl m) = old_of y (h.both.all y m)
        from y (inr m) = inr (enable_start l, Contains-append_right h.rights (enable_start l ∷ []) (enable_start l) (Contains-head (enable_start l) []), sym (only (right_moved (enable_start l)) y m))

    module _ (new : List (ℕ × ℕ)) (parents : (k n class : ℕ) → slice_get old k ≡ Some (n, class) → n ≤ length old) (adds : Adds (λ q. Unit {0}) old new) where
      left_found : (node : List ℕ) → HoldsNodes a new (enable_start l) → IsNode (side_of a) (Enabled a) (StartLatches (side_of a) (enable_start l ∷ [])) node ⊎ IsNode (side_of b) (Enabled b) (StartLatches (side_of b) []) node → (n : ℕ) × (n ≤ length new) × (path_of new n ≡ node)
      left_found node holds (inl m) = holds node m
      left_found node holds (inr m) = (0, omega arith, root_path new ∙ sym (node_none (side_of b) node m))

      right_found : (node : List ℕ) → HoldsNodes b new (enable_start l) → IsNode (side_of a) (Enabled a) (StartLatches (side_of a) []) node ⊎ IsNode (side_of b) (Enabled b) (StartLatches (side_of b) (enable_start l ∷ [])) node → (n : ℕ) × (n ≤ length new) × (path_of new n ≡ node)
      right_found node holds (inl m) = (0, omega arith, root_path new ∙ sym (node_none (side_of a) node m))
      right_found node holds (inr m) = holds node m

      -- the nodes with the next latch, where all that it reaches were made
      pub left_nodes : AreNodesFrom a new (enable_start l) (length old) → HoldsNodes a new (enable_start l) → HasNodes Both new (h.starts ++ left_moved (enable_start l) ∷ [])
      left_nodes made holds = nodes_more Both old new adds h.starts (left_moved (enable_start l)) parents h.nodes (λ k n class from there. (left_node (class ∷ path_of new n)).1 (inl (made k n class from there))) (λ node m. left_found node holds ((left_node node).0 m))

      pub right_nodes : AreNodesFrom b new (enable_start l) (length old) → HoldsNodes b new (enable_start l) → HasNodes Both new (h.starts ++ right_moved (enable_start l) ∷ [])
      right_nodes made holds = nodes_more Both old new adds h.starts (right_moved (enable_start l)) parents h.nodes (λ k n class from there. (right_node (class ∷ path_of new n)).1 (inr (made k n class from there))) (λ node m. right_found node holds ((right_node node).0 m))

      pub left_on : (more : CounterView) → slice_get a.net.latches j ≡ Some l → IsCounting a (enable_start l) old new left more → HasCountedStart a (enable_start l) new left more → HaveCounted a b new (taken ++ Left l.out.0 ∷ []) more right
      left_on more at counting start = record {
        starts = h.starts ++ left_moved (enable_start l) ∷ [];
        are = starts_more (Left l.out.0) (left_moved (enable_start l)) (left_start at);
        lefts = h.lefts ++ enable_start l ∷ [];
        rights = h.rights;
        both = left_both;
        left_among = λ x m. among x (Contains-append_cases h.lefts (enable_start l ∷ []) x m);
        right_among = λ x m. among_more (circuit_of b.net) Right (Left l.out.0) x (h.right_among x m);
        left_counted = counted_more a old new h.lefts (enable_start l) left more h.left_counted counting start;
        right_counted = counted_later b old new h.rights right adds h.right_counted;
        nodes = nodes_more Both old new adds h.starts (left_moved (enable_start l)) parents h.nodes
            (λ k n class from there. (left_node (class ∷ path_of new n)).1 (inl (counting.nodes k n class from there))) (λ node m. left_found node start.nodes ((left_node node).0 m));
      }
        where
          among : (x : Start ℕ) → Contains h.lefts x ⊎ Contains (enable_start l ∷ []) x → IsEnableAmong (circuit_of a.net) Left (taken ++ Left l.out.0 ∷ []) x
          among x (inl m) = among_more (circuit_of a.net) Left (Left l.out.0) x (h.left_among x m)
          among x (inr m) = subst (IsEnableAmong (circuit_of a.net) Left (taken ++ Left l.out.0 ∷ [])) (only (enable_start l) x m)
              (l.name, l.out.0, latch_stands a.net j l at, refl, Contains-append_right taken (Left l.out.0 ∷ []) (Left l.out.0) (Contains-head (Left l.out.0) []))

      pub right_on : (more : CounterView) → slice_get b.net.latches j ≡ Some l → IsCounting b (enable_start l) old new right more → HasCountedStart b (enable_start l) new right more → HaveCounted a b new (taken ++ Right l.out.0 ∷ []) left more
      right_on more at counting start = record {
        starts = h.starts ++ right_moved (enable_start l) ∷ [];
        are = starts_more (Right l.out.0) (right_moved (enable_start l)) (right_start at);
        lefts = h.lefts;
        rights = h.rights ++ enable_start l ∷ [];
        both = right_both;
        left_among = λ x m. among_more (circuit_of a.net) Left (Right l.out.0) x (h.left_among x m);
        right_among = λ x m. among x (Contains-append_cases h.rights (enable_start l ∷ []) x m);
        left_counted = counted_later a old new h.lefts left adds h.left_counted;
        right_counted = counted_more b old new h.rights (enable_start l) right more h.right_counted counting start;
        nodes = nodes_more Both old new adds h.starts (right_moved (enable_start l)) parents h.nodes
            (λ k n class from there. (right_node (class ∷ path_of new n)).1 (inr (counting.nodes k n class from there))) (λ node m. right_found node start.nodes ((right_node node).0 m));
      }
        where
          among : (x : Start ℕ) → Contains h.rights x ⊎ Contains (enable_start l ∷ []) x → IsEnableAmong (circuit_of b.net) Right (taken ++ Right l.out.0 ∷ []) x
          among x (inl m) = among_more (circuit_of b.net) Right (Right l.out.0) x (h.right_among x m)
          among x (inr m) = subst (IsEnableAmong (circuit_of b.net) Right (taken ++ Right l.out.0 ∷ [])) (only (enable_start l) x m)
              (l.name, l.out.0, latch_stands b.net j l at, refl, Contains-append_right taken (Right l.out.0 ∷ []) (Right l.out.0) (Contains-head (Right l.out.0) []))

pub totals_go_on : TotalsGoOn
totals_go_on a b old new taken j l left right more sound_a sound_b parents h = (
  λ at counting start. left_on a b old taken left right sound_a sound_b h j l new parents counting.more more at counting start,
  λ at counting start. right_on a b old taken left right sound_a sound_b h j l new parents counting.more more at counting start,
)
