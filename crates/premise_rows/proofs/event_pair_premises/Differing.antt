-- The premises are met, and so the laws say what stands beside them.
use Rattle.std.proofs.Common.{◌≡◌, ℕ, zero, suc, ◌≤◌, ◌<◌, true, false, [], ◌∷◌, slice_get, Some, refl, sym, ◌∙◌, subst, arith, inl, inr}
use Rattle.std.specs.Prelude.{◌⊎◌}
use Rattle.std.specs.List.{Contains}
use Rattle.std.proofs.lemmas.List.Elements.{All-from_recursion}
use Rattle.std.proofs.lemmas.Option.{none-some}
use Rattle.circuit_theory.specs.Joined.{Left, Right}
use Rattle.circuit_theory.specs.Tree.{Leaf, IsInputNumber}
use Rattle.circuit_theory.specs.EventSizes.{EventVisits}
use Rattle.circuit_theory.specs.Frame.{EventUnfolds}
use Rattle.event_form.specs.Functions.{signal_start}
use Rattle.flat_net.specs.View.{circuit_of}
use Rattle.circuit_theory.proofs.Lists.{Contains-cases, Contains-head, Contains-tail, only}
use Rattle.base_tables.specs.Table.{AreDistinct}
use Rattle.event_nodes.specs.aig.Node.{Node}
use Rattle.event_nodes.specs.aig.Node.TheVariants.{Constant, Input, And}
use Rattle.event_nodes.specs.aig.Graph.{IsAbove, IsGraph}
use Rattle.event_nodes.specs.aig.Rules.{simple_and}
use Rattle.event_nodes.specs.aig.Values.{value, lit_bit, node_bits, bits_from}
use Rattle.event_nodes.specs.Nodes.{IsEventGraph, GrowsEvents}
use Rattle.event_nodes.specs.event_variables.Variables.{GoesBefore, IsMergeOf}
use Rattle.pair_decide.specs.Answers.{IsDifference}
use Rattle.pair_decide.specs.Queries.{Distinguishes, IsTrivial, numbered}
use Rattle.obligations.specs.Decided.{IsAnswered}
use Rattle.obligations.specs.Found.{IsDifferenceOf}
use Rattle.edbf_unfold.specs.class_queries.Enables.{both_of}
use Rattle.edbf_unfold.specs.class_queries.Laws.{AreKept}
use Rattle.event_form.specs.Asked.{IsAskedOf}
use Rattle.event_form.specs.event_agreement.Queries.{AsksEventPair}
use Rattle.event_form.specs.event_agreement.event_pairs.Functions.{IsEventFunction}
use Rattle.event_form.proofs.Answers.{answers_are_fit, frames_of_differences}
use Rattle.event_form.proofs.event_agreement.PairQueries.{queries_of_pairs, queries_later, frames_shown, differences_least}
use Rattle.event_form.proofs.event_agreement.event_pairs.Sides.{signals_are_both}
use Rattle.call_rows.proofs.circuit_samples.Each.{each_pair}
use Rattle.premise_rows.specs.event_outcome_samples.Different.{shows_a, shows_b, a_events, b_events, y_pair, y_result}
use Rattle.premise_rows.specs.event_pair_premises.Differing.{two_inputs, at_root, with_and, a_and_b, a_alone, y_asked, y_not_shown, DifferencesMeetPremises}
use Rattle.premise_rows.proofs.block_premises.TurningNets.{each}
use Rattle.premise_rows.proofs.event_outcome_samples.Nets.{left_sound, right_sound}
use Rattle.premise_rows.proofs.event_outcome_samples.Sides.{always, no_latch, left_ready, right_ready, size}
use Rattle.premise_rows.proofs.event_pair_premises.Shown.{alone, of_input, input_function, root_made}

-- the place of each node, and of each variable
abbrev node_number : Node → ℕ
node_number Constant = 0
node_number (Input v) = suc v
node_number (And l r) = 3

graph : IsGraph two_inputs
graph = record {
  constant = refl;
  ordered = each IsAbove two_inputs (tt, (tt, (tt, tt)));
  once = λ n m node h k. sym (place n node h) ∙ place m node k;
  few = omega arith;
}
  where
    place : (n : ℕ) (node : Node) → slice_get two_inputs n ≡ Some node → node_number node ≡ n
    place = each (λ n (node : Node). node_number node ≡ n) two_inputs (refl, (refl, (refl, tt)))

later_graph : IsGraph with_and.graph
later_graph = record {
  constant = refl;
  ordered = each IsAbove with_and.graph (tt, (tt, (tt, ((omega arith, omega arith), tt))));
  once = λ n m node h k. sym (place n node h) ∙ place m node k;
  few = omega arith;
}
  where
    place : (n : ℕ) (node : Node) → slice_get with_and.graph n ≡ Some node → node_number node ≡ n
    place = each (λ n (node : Node). node_number node ≡ n) with_and.graph (refl, (refl, (refl, (refl, tt))))

places_once : AreDistinct at_root.places
places_once i j p h k = sym (place i p h) ∙ place j p k
  where
    place : (i : ℕ) (p : ℕ × ℕ) → slice_get at_root.places i ≡ Some p → p.0 ≡ i
    place = each (λ i (p : ℕ × ℕ). p.0 ≡ i) at_root.places (refl, (refl, tt))

pub root_kept : IsEventGraph at_root
root_kept = record {
  is_graph = graph;
  is_tree = λ k n class h. absurd (none-some (n, class) h);
  once = λ i j x h k. absurd (none-some x h);
  placed = All-from_recursion (λ (p : ℕ × ℕ). p.1 ≤ 0) at_root.places (omega arith, (omega arith, tt));
  place_once = places_once;
}

later : IsEventGraph with_and
later = record {
  is_graph = later_graph;
  is_tree = λ k n class h. absurd (none-some (n, class) h);
  once = λ i j x h k. absurd (none-some x h);
  placed = All-from_recursion (λ (p : ℕ × ℕ). p.1 ≤ 0) at_root.places (omega arith, (omega arith, tt));
  place_once = places_once;
}

pub grows : GrowsEvents at_root with_and
grows = record { graph = (_, refl); children = ([], refl); places = ([], refl) }

pub kept : AreKept a_events b_events at_root
kept = record { left_sound = left_sound; right_sound = right_sound; left = left_ready.marked; right = right_ready.marked; events = root_kept }

a_is : IsEventFunction (both_of a_events b_events) at_root (Left 0) (of_input 0 2)
a_is =
    (signals_are_both a_events b_events at_root kept).0 0 (of_input 0 2)
    (input_function a_events (no_latch (circuit_of shows_a) refl) 0 at_root refl 0 0 2 0 (EventVisits.start (Contains-head (signal_start 0) [])) (inl (refl, refl)) (λ put q node seen j h. number j (subst (λ r. IsInputNumber (circuit_of shows_a) (0 ∷ 1 ∷ []) r j) (sym (alone a_events refl 0 seen)) h))
    (omega arith) refl (Leaf 0 []) (EventUnfolds.input (inl (refl, refl))) (0, refl, (1, refl, refl)) (omega arith) (omega arith))
    (root_made a_events (no_latch (circuit_of shows_a) refl) 0 [] refl)
  where
    number : (j : ℕ) → IsInputNumber (circuit_of shows_a) (0 ∷ 1 ∷ []) 0 j → 0 ≡ j
    number j (inl h) = h.1
    number j (inr (inl h)) = absurd (omega (arith, h.0))
    number j (inr (inr h)) = absurd h

b_is : IsEventFunction (both_of a_events b_events) at_root (Right 1) (of_input 1 4)
b_is =
    (signals_are_both a_events b_events at_root kept).1 1 (of_input 1 4)
    (input_function b_events (no_latch (circuit_of shows_b) refl) 1 at_root refl 1 1 4 1 (EventVisits.start (Contains-head (signal_start 1) [])) (inr (inl (refl, refl))) (λ put q node seen j h. number j (subst (λ r. IsInputNumber (circuit_of shows_b) (0 ∷ 1 ∷ []) r j) (sym (alone b_events refl 1 seen)) h))
    (omega arith) refl (Leaf 1 []) (EventUnfolds.input (inr (inl (refl, refl)))) (1, refl, (2, refl, refl)) (omega arith) (omega arith))
    (root_made b_events (no_latch (circuit_of shows_b) refl) 1 [] refl)
  where
    number : (j : ℕ) → IsInputNumber (circuit_of shows_b) (0 ∷ 1 ∷ []) 1 j → 1 ≡ j
    number j (inl h) = absurd (omega (arith, h.0))
    number j (inr (inl h)) = h.1
    number j (inr (inr h)) = absurd h

merge : IsMergeOf at_root (0 ∷ []) (1 ∷ []) (0 ∷ 1 ∷ [])
merge = record {
  ordered = each_pair (GoesBefore at_root) (0 ∷ 1 ∷ []) ((inr (refl, inr (refl, omega arith)), tt), (tt, tt));
  exactly = λ v. (λ h. there v (Contains-cases 0 v (1 ∷ []) h), back v);
}
  where
    there : (v : ℕ) → (0 ≡ v) ⊎ Contains (1 ∷ []) v → Contains (0 ∷ []) v ⊎ Contains (1 ∷ []) v
    there v (inl e) = inl (subst (Contains (0 ∷ [])) e (Contains-head 0 []))
    there v (inr h) = inr h

    back : (v : ℕ) → Contains (0 ∷ []) v ⊎ Contains (1 ∷ []) v → Contains (0 ∷ 1 ∷ []) v
    back v (inl h) = subst (Contains (0 ∷ 1 ∷ [])) (only 0 v h) (Contains-head 0 (1 ∷ []))
    back v (inr h) = Contains-tail 0 v (1 ∷ []) h

asks : AsksEventPair (both_of a_events b_events) at_root (Left 0) (Right 1) a_and_b
unfolding simple_and
asks = record {
  left_function = of_input 0 2;
  right_function = of_input 1 4;
  left_is = a_is;
  right_is = b_is;
  left = refl;
  right = refl;
  care = refl;
  care_within = omega arith;
  vars = merge;
}

not_trivial : IsTrivial a_and_b → ⊥
not_trivial (inl e) = omega (arith, e)
not_trivial (inr e) = omega (arith, e)

differ : true ≡ false → ⊥
differ e = cc

distinguishes : Distinguishes two_inputs a_and_b (numbered a_and_b 1)
unfolding value node_bits bits_from lit_bit
distinguishes = record { care = refl; differ = differ }

least : (m : ℕ) → m < 1 → Distinguishes two_inputs a_and_b (numbered a_and_b m) → ⊥
unfolding value node_bits bits_from lit_bit
least zero l d = d.differ refl
least (suc m) l d = omega (arith, l)

differs : IsDifference two_inputs a_and_b a_alone
differs = record { apart = not_trivial; each = refl; distinguishes = distinguishes; least = λ few. (1, refl, record { in_range = omega arith; distinguishes = distinguishes; least = least }) }

pub found : IsDifferenceOf two_inputs (a_and_b ∷ []) 0 a_alone
found = record { query = a_and_b; first = record { at = refl; earlier = λ i r l h. absurd (omega (arith, l)) }; differs = differs }

pub asked : IsAskedOf (both_of a_events b_events) at_root false y_pair (y_asked true)
asked = record { name_is = refl; size_is = size; decisive_is = (λ e. (refl, always (Left 0), always (Right 1)), λ h. refl); query = a_and_b; only = refl; asks = asks }

asked_cut : IsAskedOf (both_of a_events b_events) at_root true y_pair (y_asked false)
asked_cut = record { name_is = refl; size_is = size; decisive_is = (λ e. absurd (differ (sym e)), λ h. absurd (differ h.0)); query = a_and_b; only = refl; asks = asks }

answered : (conflicts : ℕ) → IsAnswered two_inputs conflicts (y_asked true) y_result
answered conflicts = record { name_is = refl; size_is = refl; answer_is = (refl, record { place = 0; bits = a_alone; is = found }) }

answered_cut : (conflicts : ℕ) → IsAnswered two_inputs conflicts (y_asked false) y_not_shown
answered_cut conflicts = record { name_is = refl; size_is = refl; answer_is = (refl, record { place = 0; bits = a_alone; is = found }) }

pub meet_premises : DifferencesMeetPremises
unfolding value node_bits bits_from lit_bit
meet_premises = record {
  kept = kept;
  later = later;
  grows = grows;
  asks = asks;
  differs = differs;
  asked = asked;
  asked_cut = asked_cut;
  answered = answered;
  answered_cut = answered_cut;
  found = found;
  is_query = queries_of_pairs (both_of a_events b_events) at_root (Left 0) (Right 1) a_and_b root_kept asks;
  asks_later = queries_later (both_of a_events b_events) at_root with_and (Left 0) (Right 1) a_and_b root_kept later grows asks;
  frame = frames_shown (both_of a_events b_events) at_root (Left 0) (Right 1) a_and_b a_alone root_kept asks differs;
  least = differences_least (both_of a_events b_events) at_root (Left 0) (Right 1) a_and_b a_alone root_kept asks differs;
  frame_of_pair = frames_of_differences (both_of a_events b_events) at_root false y_pair (y_asked true) 0 a_alone root_kept asked found;
  fits = λ conflicts. answers_are_fit (both_of a_events b_events) at_root false conflicts y_pair (y_asked true) y_result root_kept asked (answered conflicts);
  fits_cut = λ conflicts. answers_are_fit (both_of a_events b_events) at_root true conflicts y_pair (y_asked false) y_not_shown root_kept asked_cut (answered_cut conflicts);
}
