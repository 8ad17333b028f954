-- The literals of what the latch takes over, and of its enable.
use Rattle.std.proofs.Common.{◌≡◌, ℕ, zero, suc, ◌<◌, true, false, [], ◌∷◌, List, Some, refl, sym, subst, arith, inl, inr}
use Rattle.std.specs.Prelude.{codes}
use Rattle.std.specs.List.{Contains}
use Rattle.std.proofs.lemmas.List.Elements.{All-from_recursion}
use Rattle.circuit_theory.specs.Circuit.{IsLatch}
use Rattle.circuit_theory.specs.Frame.{EventSide}
use Rattle.circuit_theory.proofs.Lists.{Contains-head, Contains-tail}
use Rattle.circuit_theory.proofs.Sums.{same_or_not}
use Rattle.event_nodes.specs.aig.Builds.{Builds}
use Rattle.event_nodes.specs.aig.Graph.{flip}
use Rattle.event_nodes.specs.aig.Rules.{place_lit, simple_and}
use Rattle.event_nodes.specs.Nodes.{named_places}
use Rattle.event_nodes.specs.View.{side_of}
use Rattle.event_nodes.specs.event_variables.Inputs.{AreVisitedInputs, IsVisitedInput}
use Rattle.event_nodes.specs.event_variables.Variables.{GoesBefore, variable_of}
use Rattle.edbf_unfold.specs.Care.{IsCareLit}
use Rattle.edbf_unfold.specs.event_literals.Known.{IsEnableLit}
use Rattle.edbf_unfold.specs.event_literals.ShortOr.{short_and, one_and, under, restricted, with_sign, is_conjunct, operands, node_operands}
use Rattle.event_classes.specs.event_functions.class_totals.EnableFunctions.{IsEnableFunctionOf}
use Rattle.event_classes.proofs.event_functions.Covering.{two_roots, care_supports}
use Rattle.event_classes.proofs.event_functions.class_totals.EnableCovering.{own_enable_supports}
use Rattle.call_rows.specs.circuit_samples.event_samples.Samples.{load_cover, same_cover}
use Rattle.call_rows.proofs.circuit_samples.Each.{each_at, each_pair}
use Rattle.call_rows.proofs.circuit_samples.event_samples.HoldCells.{IsHold, hold_next, hold_tree}
use Rattle.call_rows.proofs.circuit_samples.event_samples.Opened.{holds_load, loads_load}
use Rattle.premise_rows.specs.event_pair_premises.Held.{loads_a}
use Rattle.premise_rows.specs.event_class_premises.Tables.{at_enables}
use Rattle.premise_rows.specs.event_class_premises.Totals.{q_latch}
use Rattle.premise_rows.specs.event_class_premises.Enables.{as_e, EnableMeetsPremises}
use Rattle.premise_rows.proofs.event_pair_premises.HeldPair.{kept, left_net, left_circuit, left_below}
use Rattle.premise_rows.proofs.event_class_premises.Tables.{enables_kept}
use Rattle.premise_rows.proofs.event_class_premises.TwoNets.{once}
use Rattle.premise_rows.proofs.event_class_premises.Visited as visited

abbrev s : EventSide ℕ
s = side_of loads_a

abbrev hold : IsHold s 2 3
hold = record { e = 0; a = 1; i = 0; j = 1; load = load_cover; gate = (0, omega arith, refl); e_is = inl (refl, refl); a_is = inr (inl (refl, refl)); holds = holds_load; loads = loads_load }

latch : IsLatch left_circuit (codes "q") 2 3
latch = (2, omega arith, refl)

-- with the latch as 0: e with a
low : Builds at_enables.graph (named_places at_enables) (hold_tree load_cover 0 1 false []) 6
unfolding flip place_lit simple_and
low = (
  2 ∷ 4 ∷ 0 ∷ [],
  (2, 4 ∷ 0 ∷ [], (0, refl, (1, refl, refl)), (4, 0 ∷ [], (1, refl, (2, refl, refl)), (0, [], refl, refl, refl), refl), refl),
  (6, (6, (6, (2, refl, (6, (3, refl, refl), (6, refl, refl))), (7, refl, refl)), (6, (0, (3, refl, (3, refl, (0, refl, refl))), (7, refl, refl)), refl)), refl),
)

-- with it as 1: the complement of e without a
high : Builds at_enables.graph (named_places at_enables) (hold_tree load_cover 0 1 true []) 9
unfolding flip place_lit simple_and
high = (
  2 ∷ 4 ∷ 1 ∷ [],
  (2, 4 ∷ 1 ∷ [], (0, refl, (1, refl, refl)), (4, 1 ∷ [], (1, refl, (2, refl, refl)), (1, [], refl, refl, refl), refl), refl),
  (9, (6, (6, (2, refl, (6, (3, refl, refl), (6, refl, refl))), (7, refl, refl)), (9, (3, (3, refl, (3, refl, (3, refl, refl))), (8, (4, refl, refl), refl)), refl)), refl),
)

value_is : IsEnableLit loads_a at_enables [] q_latch 2
unfolding flip simple_and short_and one_and under restricted with_sign is_conjunct operands node_operands
value_is = record {
  f0 = 6;
  f1 = 9;
  low = record { tree = hold_tree load_cover 0 1 false []; unfolds = hold_next s same_or_not left_net.single once (codes "q") 2 3 latch hold false []; builds = low; within = omega arith };
  high = record { tree = hold_tree load_cover 0 1 true []; unfolds = hold_next s same_or_not left_net.single once (codes "q") 2 3 latch hold true []; builds = high; within = omega arith };
  or_is = (3, refl, refl);
  within = omega arith;
}

-- no other latch is reached
care_is : IsCareLit loads_a at_enables visited.x 1
care_is = record { enables = []; each = λ y h. absurd (omega (arith, h.1)); all = λ path v reached on. absurd (visited.unreached load_cover same_cover 1 path v reached); is = refl; within = omega arith }

input_e : IsVisitedInput loads_a visited.x 0 []
input_e = record { out = Some 2; place = 0; visit = visited.visits_e load_cover same_cover 1 (visited.x ∷ []) (Contains-head visited.x []); numbered = inl (refl, refl) }

input_a : IsVisitedInput loads_a visited.x 1 []
input_a = record { out = Some 2; place = 1; visit = visited.visits_a load_cover same_cover 1 (visited.x ∷ []) (Contains-head visited.x []); numbered = inr (inl (refl, refl)) }

abbrev VariableOf : ℕ → List ℕ → Type 0
VariableOf input path = (v : ℕ) × Contains (0 ∷ 1 ∷ []) v × (variable_of at_enables v ≡ record { input = input; at = path })

numbered_so : (i : ℕ) → i < 2 → VariableOf i []
numbered_so zero l = (0, Contains-head 0 (1 ∷ []), refl)
numbered_so (suc zero) l = (1, Contains-tail 0 1 (1 ∷ []) (Contains-head 1 []), refl)
numbered_so (suc (suc i)) l = absurd (omega (arith, l))

variable : (input : ℕ) (path : List ℕ) → IsVisitedInput loads_a visited.x input path → VariableOf input path
variable input path h = subst (VariableOf input) (sym (visited.seen load_cover same_cover 1 h.visit).1) (numbered_so input (left_below h.place input h.numbered))

vars_are : AreVisitedInputs loads_a at_enables visited.x (0 ∷ 1 ∷ [])
vars_are = record {
  in_order = record { within = All-from_recursion (λ (v : ℕ). v < 2) (0 ∷ 1 ∷ []) (omega arith, (omega arith, tt)); ordered = each_pair (GoesBefore at_enables) (0 ∷ 1 ∷ []) ((inr (refl, inr (refl, omega arith)), tt), (tt, tt)) };
  each = λ v h. each_at (λ (m : ℕ). IsVisitedInput loads_a visited.x (variable_of at_enables m).input (variable_of at_enables m).at) (0 ∷ 1 ∷ []) (input_e, (input_a, tt)) v h;
  all = variable;
}

function : IsEnableFunctionOf loads_a at_enables q_latch as_e
function = record { value = value_is; care = care_is; vars = vars_are }

pub enable_meets_premises : EnableMeetsPremises
enable_meets_premises = record {
  sound = kept.left_sound;
  circuit = kept.left;
  events = enables_kept;
  function = function;
  covered = two_roots at_enables enables_kept as_e.vars 2 1 (own_enable_supports loads_a at_enables visited.x as_e.vars kept.left_sound kept.left enables_kept vars_are q_latch 2 refl value_is) (care_supports loads_a at_enables visited.x as_e.vars kept.left_sound kept.left enables_kept vars_are 1 care_is);
}
