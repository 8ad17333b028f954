-- The query and the answer at its limit meet the premises, and so the answer fits the pair.
use Rattle.std.proofs.Common.{◌≡◌, ◌∙◌, ℕ, zero, suc, ◌+◌, ◌≤◌, Bool, true, false, not, [], ◌∷◌, ◌++◌, map, slice_get, Some, refl, sym, ap, subst, arith, inl, inr}
use Rattle.std.specs.Prelude.{◌⊎◌, ◌&&◌, ◌==◌, if◌then◌else◌}
use Rattle.std.specs.List.{Contains}
use Rattle.std.proofs.lemmas.List.Elements.{All-nil}
use Rattle.std.proofs.lemmas.Option.{none-some}
use Rattle.circuit_theory.specs.Joined.{Left, Right}
use Rattle.circuit_theory.proofs.Lists.{All-from_each, Contains-map_from, only}
use Rattle.event_nodes.specs.aig.Graph.{IsAbove, IsGraph}
use Rattle.event_nodes.specs.aig.Node.{Node}
use Rattle.event_nodes.specs.aig.Node.TheVariants.{Constant, Input, And}
use Rattle.event_nodes.specs.aig.Rules.{simple_and}
use Rattle.event_nodes.specs.aig.Values.{value, lit_bit, node_bits, bits_from}
use Rattle.event_nodes.specs.Nodes.{IsEventGraph}
use Rattle.event_nodes.specs.event_variables.Variables.{GoesBefore, IsMergeOf}
use Rattle.pair_decide.specs.Answers.{IsAtLimit}
use Rattle.pair_decide.specs.Queries.{IsQuery, IsSame, IsTrivial}
use Rattle.obligations.specs.Decided.{IsAnswered}
use Rattle.obligations.specs.Found.{IsLimitOf}
use Rattle.edbf_unfold.specs.class_queries.Laws.{AreKept}
use Rattle.event_form.specs.Asked.{IsAskedOf}
use Rattle.event_form.specs.event_agreement.Queries.{AsksEventPair}
use Rattle.event_form.proofs.Answers.{answers_are_fit}
use Rattle.event_form.proofs.event_agreement.PairQueries.{queries_of_pairs}
use Rattle.event_form.proofs.event_agreement.event_pairs.Sides.{signals_are_both}
use Rattle.premise_rows.specs.event_limit_premises.AtLimit.{chosen_pair, chosen_query, chosen_asked, chosen_result, undecided, LimitMeetsPremises}
use Rattle.premise_rows.specs.event_limit_premises.Chosen.{at_choice, both_chosen, chooses, choice_ands, chosen_nodes, numbers_from, seventeen, shows}
use Rattle.premise_rows.proofs.event_limit_premises.ChosenClauses.{encoding}
use Rattle.premise_rows.proofs.event_limit_premises.ChosenFunction.{goes_before, left_function, left_nodes, over_all, right_function, right_nodes}
use Rattle.premise_rows.proofs.event_limit_premises.ChosenNets.{both_none, choosing_sound, chooses_kept, showing_sound, shows_kept}
use Rattle.premise_rows.proofs.event_limit_premises.Latchless.{always, size}
use Rattle.premise_rows.proofs.event_limit_premises.Numbers.{in_order, in_seventeen, is_at}
use Rattle.premise_rows.proofs.event_pair_premises.Shown.{of_input}
use Rattle.premise_rows.proofs.block_premises.TurningNets.{EachFrom, each}

-- the number of a node
abbrev node_number : Node → ℕ
node_number Constant = 0
node_number (Input v) = suc v
node_number (And l r) = if l.0 == 2 then (if r.0 == 4 then 18 else 19) else 20

-- each node stands at its number, and reads lower ones
abbrev StandsAt : ℕ → Node → Type 0
StandsAt n node = (node_number node ≡ n) × IsAbove n node

inputs_stand : (count k behind : ℕ) → behind ≡ suc k + count → EachFrom StandsAt behind choice_ands → EachFrom StandsAt (suc k) (map Input (numbers_from k count) ++ choice_ands)
inputs_stand zero k behind e h = subst (λ n. EachFrom StandsAt n choice_ands) (let same : behind ≡ suc k = omega (arith, e) in same) h
inputs_stand (suc count) k behind e h = ((refl, tt), inputs_stand count (suc k) behind (omega (arith, e)) h)

stands : (n : ℕ) (node : Node) → slice_get chosen_nodes n ≡ Some node → StandsAt n node
stands = each StandsAt chosen_nodes ((refl, tt), inputs_stand 17 0 18 (omega arith) ((refl, (omega arith, omega arith)), ((refl, (omega arith, omega arith)), ((refl, (omega arith, omega arith)), tt))))

pub graph : IsGraph chosen_nodes
graph = record { constant = refl; ordered = λ n node h. (stands n node h).1; once = λ n m node h k. sym (stands n node h).0 ∙ (stands m node k).0; few = omega arith }

abbrev at_root : ℕ → ℕ × ℕ
at_root v = (v, 0)

choice_kept : IsEventGraph at_choice
choice_kept = record {
  is_graph = graph;
  is_tree = λ k n class h. absurd (none-some (n, class) h);
  once = λ i j x h k. absurd (none-some x h);
  placed = All-from_each (λ (p : ℕ × ℕ). p.1 ≤ 0) at_choice.places (λ p h. let v = Contains-map_from at_root seventeen p h in subst (λ (q : ℕ × ℕ). q.1 ≤ 0) v.2 (omega arith));
  place_once = λ i j p h k. (let m = is_at at_root i p h in let n = is_at at_root j p k in ap (λ (q : ℕ × ℕ). q.0) (m.1 ∙ sym n.1));
}

pub kept : AreKept chooses shows at_choice
kept = record { left_sound = choosing_sound; right_sound = showing_sound; left = chooses_kept; right = shows_kept; events = choice_kept }

merge : IsMergeOf at_choice seventeen (0 ∷ []) seventeen
merge = record { ordered = in_order (GoesBefore at_choice) goes_before; exactly = λ v. (λ h. inl h, back v) }
  where
    back : (v : ℕ) → Contains seventeen v ⊎ Contains (0 ∷ []) v → Contains seventeen v
    back v (inl h) = h
    back v (inr h) = subst (Contains seventeen) (only 0 v h) (in_seventeen 0 (omega arith))

asks : AsksEventPair both_chosen at_choice (Left 17) (Right 0) chosen_query
unfolding simple_and
asks = record {
  left_function = over_all;
  right_function = of_input 0 2;
  left_is = (signals_are_both chooses shows at_choice kept).0 17 over_all left_function left_nodes;
  right_is = (signals_are_both chooses shows at_choice kept).1 0 (of_input 0 2) right_function right_nodes;
  left = refl;
  right = refl;
  care = refl;
  care_within = omega arith;
  vars = merge;
}

pub is_query : IsQuery chosen_nodes chosen_query
is_query = queries_of_pairs both_chosen at_choice (Left 17) (Right 0) chosen_query choice_kept asks

-- a chosen by b or by its complement is a
same_bits : (a b : Bool) → not (not (a && b) && not (a && not b)) ≡ a
same_bits true true = refl
same_bits true false = refl
same_bits false b = refl

same : IsSame chosen_nodes chosen_query
unfolding value node_bits bits_from lit_bit
same a h = same_bits (a 0) (a 1)

not_trivial : IsTrivial chosen_query → ⊥
not_trivial (inl e) = omega (arith, e)
not_trivial (inr e) = omega (arith, e)

at_limit : IsAtLimit chosen_nodes chosen_query 0 undecided
at_limit = record { wide = record { apart = not_trivial; many = omega arith }; encoding = encoding; fruitless = record { count = refl; derived = []; derives = refl; new = tt; no_empty = All-nil _ } }

asked : IsAskedOf both_chosen at_choice false chosen_pair chosen_asked
asked = record { name_is = refl; size_is = size both_chosen both_none (Left 17) (Right 0); decisive_is = (λ e. (refl, always both_chosen both_none (Left 17), always both_chosen both_none (Right 0)), λ h. refl); query = chosen_query; only = refl; asks = asks }

-- the query stands for itself
limit : IsLimitOf chosen_nodes 0 (chosen_query ∷ []) undecided
limit = record {
  place = 0;
  query = chosen_query;
  first = record { at = refl; earlier = λ i r l h. absurd (omega (arith, l)) };
  limit = record {
    graph = chosen_nodes;
    asked = chosen_query;
    stands = record { graph = graph; query = is_query; vars = refl; trivial = λ h. h; left = λ a. refl; right = λ a. refl; care = λ a. refl };
    decides = at_limit;
  };
}

answered : IsAnswered chosen_nodes 0 chosen_asked chosen_result
answered = record { name_is = refl; size_is = refl; answer_is = limit }

pub meets_premises : LimitMeetsPremises
meets_premises = record {
  kept = kept;
  asks = asks;
  is_query = is_query;
  same = same;
  at_limit = at_limit;
  asked = asked;
  limit = limit;
  answered = answered;
  fits = answers_are_fit both_chosen at_choice false 0 chosen_pair chosen_asked chosen_result choice_kept asked answered;
}
