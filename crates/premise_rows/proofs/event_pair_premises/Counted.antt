-- The event functions, and what was counted.
use Rattle.std.proofs.Common.{◌≡◌, ◌∙◌, ℕ, ◌<◌, true, [], ◌∷◌, slice_get, Some, None, refl, sym, subst, arith, inl, inr}
use Rattle.std.specs.Prelude.{◌⊎◌}
use Rattle.std.specs.List.{Contains}
use Rattle.std.proofs.lemmas.List.Elements.{All-from_recursion}
use Rattle.std.proofs.lemmas.Option.{none-some, slice_get_within}
use Rattle.circuit_theory.specs.EventSizes.{EventVisits, Start}
use Rattle.circuit_theory.specs.Joined.{Left, Right}
use Rattle.circuit_theory.proofs.Lists.{Contains-head, only}
use Rattle.base_tables.specs.Table.{AreDistinct}
use Rattle.flat_net.specs.View.{circuit_of}
use Rattle.event_nodes.specs.aig.Graph.{IsAbove}
use Rattle.event_nodes.specs.aig.Node.{Node}
use Rattle.event_nodes.specs.Nodes.{IsEventGraph, GrowsEvents}
use Rattle.event_nodes.specs.View.{EventCircuitView}
use Rattle.event_nodes.specs.Visited.{HasCounted, HoldsNodes, HoldsVisits, IsVisitedPair}
use Rattle.event_form.specs.Counted.{left_starts, right_starts}
use Rattle.event_form.specs.Functions.{signal_start}
use Rattle.event_form.specs.event_agreement.event_pairs.Functions.{IsEventFunction}
use Rattle.event_form.specs.event_agreement.pair_events.Counted.{HaveCounted}
use Rattle.event_form.specs.event_agreement.pair_events.View.{IsWithinLimits}
use Rattle.event_form.specs.event_agreement.pair_events.Within.{IsCountedOnce}
use Rattle.event_form.proofs.event_agreement.event_pairs.Growing.{functions_later, value_of_tree}
use Rattle.event_form.proofs.event_agreement.event_pairs.Sides.{signals_are_both}
use Rattle.event_form.proofs.event_agreement.event_pairs.Unions.{pair_nodes}
use Rattle.event_form.proofs.event_agreement.pair_events.Within.{is_within}
use Rattle.premise_rows.specs.event_outcome_samples.Different.{a_events, b_events, y_pair}
use Rattle.premise_rows.specs.event_pair_premises.Counted.{after_load, FunctionsMeetPremises, at_last, PairIsCounted}
use Rattle.premise_rows.specs.event_pair_premises.Held.{both_held, at_load, loads_a, loads_not_a, over_load}
use Rattle.premise_rows.proofs.block_premises.TurningNets.{each}
use Rattle.premise_rows.proofs.event_outcome_samples.Sides.{no_latch}
use Rattle.premise_rows.proofs.event_pair_premises.Differing.{kept as inputs_kept}
use Rattle.premise_rows.proofs.event_pair_premises.HeldPair.{kept, left_function, load_kept, node_number, right_function, left_nodes, right_nodes}
use Rattle.premise_rows.proofs.event_pair_premises.Shown.{alone, root_made, stays_at_root}

later : IsEventGraph after_load
later = record {
  is_graph = record {
    constant = refl;
    ordered = each IsAbove after_load.graph (tt, (tt, (tt, (tt, (tt, ((omega arith, omega arith), ((omega arith, omega arith), ((omega arith, omega arith), ((omega arith, omega arith), ((omega arith, omega arith), tt))))))))));
    once = λ n m node h k. sym (place n node h) ∙ place m node k;
    few = omega arith;
  };
  is_tree = load_kept.is_tree;
  once = load_kept.once;
  placed = load_kept.placed;
  place_once = load_kept.place_once;
}
  where
    place : (n : ℕ) (node : Node) → slice_get after_load.graph n ≡ Some node → node_number node ≡ n
    place = each (λ n (node : Node). node_number node ≡ n) after_load.graph (refl, (refl, (refl, (refl, (refl, (refl, (refl, (refl, (refl, (refl, tt))))))))))

grows : GrowsEvents at_load after_load
grows = record { graph = (_, refl); children = ([], refl); places = ([], refl) }

left_is : IsEventFunction both_held at_load (Left 4) (over_load 10)
left_is = (signals_are_both loads_a loads_not_a at_load kept).0 4 (over_load 10) left_function left_nodes

right_is : IsEventFunction both_held at_load (Right 4) (over_load 13)
right_is = (signals_are_both loads_a loads_not_a at_load kept).1 4 (over_load 13) right_function right_nodes

either : (k : ℕ) → Contains (0 ∷ 1 ∷ []) k ⊎ Contains (0 ∷ 1 ∷ []) k → Contains (0 ∷ 1 ∷ []) k
either k (inl h) = h
either k (inr h) = h

pub functions_meet_premises : FunctionsMeetPremises
functions_meet_premises = record {
  kept = kept;
  left_function = left_function;
  right_function = right_function;
  left_nodes = left_nodes;
  right_nodes = right_nodes;
  later = later;
  grows = grows;
  takes = λ v p h. refl;
  left_is = left_is;
  right_is = right_is;
  left_later = functions_later both_held at_load after_load (Left 4) (over_load 10) load_kept later grows left_is;
  left_value = value_of_tree both_held at_load (Left 4) (over_load 10) load_kept left_is (λ i node. true) (λ v. true) (λ v p h. refl);
  pair_nodes = pair_nodes both_held at_load.children (Left 4) (Right 4) (0 ∷ 1 ∷ []) (0 ∷ 1 ∷ []) (0 ∷ 1 ∷ []) left_is.nodes right_is.nodes (λ k. (λ h. inl h, λ h. either k h));
}

-- one place is counted
one_place : (p : ℕ × ℕ) → AreDistinct (p ∷ [])
one_place p i j x h k =
    let a : i < 1 = slice_get_within (p ∷ []) i x h in
    let b : j < 1 = slice_get_within (p ∷ []) j x k in
    omega (arith, a, b)

module _ (e : EventCircuitView) (bare : (circuit_of e.net).equations ≡ []) (p : ℕ) where
  abbrev x : Start ℕ
  x = signal_start p

  abbrev at_p : ℕ × ℕ
  at_p = (0, p)

  abbrev IsListed : ℕ → Type 0
  IsListed r = let q : ℕ × ℕ = (0, r) in Contains (at_p ∷ []) q

  holds : HoldsVisits e [] x ((0, p) ∷ [])
  holds put q path seen =
      let place : p ≡ q = alone e bare p seen in
      record { node = 0; made = omega arith; path_is = stays_at_root e (no_latch (circuit_of e.net) bare) p seen; listed = subst IsListed place (Contains-head at_p []) }

  pub all_visits : (y : Start ℕ) → Contains (x ∷ []) y → HoldsVisits e [] y ((0, p) ∷ [])
  all_visits y h = subst (λ z. HoldsVisits e [] z ((0, p) ∷ [])) (only x y h) holds

  pub all_nodes : (y : Start ℕ) → Contains (x ∷ []) y → HoldsNodes e [] y
  all_nodes y h = subst (HoldsNodes e []) (only x y h) (root_made e (no_latch (circuit_of e.net) bare) p [] refl)

left_counted : HasCounted a_events [] (signal_start 0 ∷ []) at_last.left_count
left_counted = record {
  weighed = record { sum = refl; small = omega arith; few = omega arith };
  only = All-from_recursion (IsVisitedPair a_events [] (signal_start 0 ∷ [])) ((0, 0) ∷ []) (record { node = omega arith; within = omega arith; out = None; visit = EventVisits.start (Contains-head (signal_start 0) []) }, tt);
  all = all_visits a_events refl 0;
}

right_counted : HasCounted b_events [] (signal_start 1 ∷ []) at_last.right_count
right_counted = record {
  weighed = record { sum = refl; small = omega arith; few = omega arith };
  only = All-from_recursion (IsVisitedPair b_events [] (signal_start 1 ∷ [])) ((0, 1) ∷ []) (record { node = omega arith; within = omega arith; out = None; visit = EventVisits.start (Contains-head (signal_start 1) []) }, tt);
  all = all_visits b_events refl 1;
}

counted : HaveCounted at_last (left_starts (y_pair ∷ [])) (right_starts (y_pair ∷ []))
counted = record {
  left_counted = left_counted;
  right_counted = right_counted;
  left_nodes = all_nodes a_events refl 0;
  right_nodes = all_nodes b_events refl 1;
  only = λ k n class h. absurd (none-some (n, class) h);
}

once : IsCountedOnce at_last
once = record { left = one_place (0, 0); right = one_place (0, 1) }

within : IsWithinLimits at_last
within = record { starts = record { left = left_starts (y_pair ∷ []); right = right_starts (y_pair ∷ []); counted = counted }; left = left_counted.weighed; right = right_counted.weighed; nodes = omega arith }

pub pair_is_counted : PairIsCounted
pair_is_counted = record {
  kept = inputs_kept;
  once = once;
  within = within;
  counted = counted;
  totals = is_within at_last (left_starts (y_pair ∷ [])) (right_starts (y_pair ∷ [])) inputs_kept once within counted;
}
