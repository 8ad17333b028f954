-- Both circuits with an enabled latch side by side: their class map, their query, and what its sides are worth.
use Rattle.std.proofs.Common.{◌<◌, ◌≡◌, ◌≢◌, ◌∙◌, ℕ, suc, ◌+◌, ◌≤◌, Bool, true, false, not, List, [], ◌∷◌, slice_get, Some, refl, sym, subst, arith, inl, inr}
use Rattle.std.specs.Prelude.{◌⊎◌, ◌&&◌, ◌==◌, ◌*◌, if◌then◌else◌, codes}
use Rattle.std.specs.List.{AllPairs, Contains}
use Rattle.std.proofs.lemmas.List.Elements.{All-from_recursion}
use Rattle.circuit_theory.specs.Circuit.{Circuit, Named, IsLatch, IsSingleDriven, Reads, Reaches}
use Rattle.circuit_theory.specs.Depth.{IsDepth, LatchesHaveDepths}
use Rattle.circuit_theory.specs.Joined.{Either, Left, Right, joined}
use Rattle.circuit_theory.specs.Net.{IsNet}
use Rattle.circuit_theory.specs.Run.{IsEnabled}
use Rattle.circuit_theory.specs.Tree.{AreNumbered, IsInputNumber, StandsBeside}
use Rattle.circuit_theory.specs.Classes.{HasClasses, IsClassMap, IsInFirstClass, IsLatchOrder, classes_of}
use Rattle.circuit_theory.specs.EventFits.{ReachesAlways}
use Rattle.circuit_theory.specs.EventFrames.{IsEventSize}
use Rattle.circuit_theory.specs.Frame.{ConeLatches, IsNode}
use Rattle.circuit_theory.proofs.Inputs.{beside_is_input}
use Rattle.circuit_theory.proofs.Lists.{Contains-cases, Contains-head, Contains-tail, only}
use Rattle.circuit_theory.proofs.Numbers.{one_place}
use Rattle.circuit_laws.proofs.JoinedParts.{joined_same, joined_single, joined_number_once}
use Rattle.sec_base.specs.Cover.{IsPlace, IsCube, IsCoverSound}
use Rattle.flat_net.specs.View.{circuit_of}
use Rattle.event_nodes.specs.aig.Graph.{IsAbove, IsGraph, flip}
use Rattle.event_nodes.specs.aig.Node.{Node}
use Rattle.event_nodes.specs.aig.Node.TheVariants.{Constant, Input, And}
use Rattle.event_nodes.specs.aig.Rules.{place_lit, simple_and}
use Rattle.event_nodes.specs.aig.Values.{value, lit_bit, node_bits, bits_from}
use Rattle.event_nodes.specs.aig.Builds.{Builds}
use Rattle.event_nodes.specs.Nodes.{IsEventGraph, named_places}
use Rattle.event_nodes.specs.event_variables.Variables.{GoesBefore, IsMergeOf}
use Rattle.event_nodes.specs.View.{Enabled}
use Rattle.event_nodes.specs.Visited.{HoldsNodes}
use Rattle.pair_decide.specs.Queries.{IsSame}
use Rattle.edbf_unfold.specs.class_queries.Laws.{AreKept}
use Rattle.edbf_unfold.specs.event_literals.ShortOr.{short_and, one_and, under, restricted, with_sign, is_conjunct, operands, node_operands}
use Rattle.event_form.specs.event_agreement.Queries.{AsksEventPair}
use Rattle.event_form.specs.event_agreement.event_pairs.Functions.{IsEventFunction}
use Rattle.event_form.specs.Functions.{IsFunctionOf, signal_start}
use Rattle.event_form.proofs.event_agreement.event_pairs.Sides.{signals_are_both}
use Rattle.call_rows.specs.circuit_samples.event_samples.Samples.{load_cover, load_not_cover, same_cover, not_cover}
use Rattle.call_rows.proofs.circuit_samples.Each.{Each, each_at, each_latch, each_pair, each_split}
use Rattle.call_rows.proofs.circuit_samples.NetTest.{numbers_distinct-sound}
use Rattle.call_rows.proofs.circuit_samples.event_samples.HoldCells.{IsHold, hold_enabled, hold_depths, in_first, in_their_order, at_root}
use Rattle.call_rows.proofs.circuit_samples.event_samples.Opened.{holds_load, loads_load, holds_not, loads_not}
use Rattle.premise_rows.specs.event_pair_premises.Held.{loads_a, loads_not_a, both_held, held_nodes, at_load, y_query, over_load}
use Rattle.premise_rows.proofs.block_premises.TurningNets.{each}
use Rattle.premise_rows.proofs.event_pair_premises.HeldSide as held

-- the covers have a column for each fan-in
pub load_sound : IsCoverSound load_cover
load_sound = record {
  cubes = All-from_recursion (IsCube 3) (codes "11-" ∷ codes "0-1" ∷ []) (
    (refl, All-from_recursion IsPlace (codes "11-") (inr (inl refl), (inr (inl refl), (inr (inr refl), tt)))),
    ((refl, All-from_recursion IsPlace (codes "0-1") (inl refl, (inr (inr refl), (inr (inl refl), tt)))), tt),
  );
  empty_is_on = λ e. refl;
}

pub load_not_sound : IsCoverSound load_not_cover
load_not_sound = record {
  cubes = All-from_recursion (IsCube 3) (codes "10-" ∷ codes "0-1" ∷ []) (
    (refl, All-from_recursion IsPlace (codes "10-") (inr (inl refl), (inl refl, (inr (inr refl), tt)))),
    ((refl, All-from_recursion IsPlace (codes "0-1") (inl refl, (inr (inr refl), (inr (inl refl), tt)))), tt),
  );
  empty_is_on = λ e. refl;
}

pub same_sound : IsCoverSound same_cover
same_sound = record { cubes = All-from_recursion (IsCube 1) (codes "1" ∷ []) ((refl, All-from_recursion IsPlace (codes "1") (inr (inl refl), tt)), tt); empty_is_on = λ e. refl }

pub not_sound : IsCoverSound not_cover
not_sound = record { cubes = All-from_recursion (IsCube 1) (codes "0" ∷ []) ((refl, All-from_recursion IsPlace (codes "0") (inl refl, tt)), tt); empty_is_on = λ e. refl }

-- the graph
abbrev pub node_number : Node → ℕ
node_number Constant = 0
node_number (Input v) = suc v
node_number (And l r) = if r.0 == 4 then 9 else if r.0 == 8 then 5 else if r.0 == 9 then 6 else if r.0 == 11 then 7 else 8

graph : IsGraph held_nodes
graph = record {
  constant = refl;
  ordered = each IsAbove held_nodes (tt, (tt, (tt, (tt, (tt, ((omega arith, omega arith), ((omega arith, omega arith), ((omega arith, omega arith), ((omega arith, omega arith), tt)))))))));
  once = λ n m node h k. sym (place n node h) ∙ place m node k;
  few = omega arith;
}
  where
    place : (n : ℕ) (node : Node) → slice_get held_nodes n ≡ Some node → node_number node ≡ n
    place = each (λ n (node : Node). node_number node ≡ n) held_nodes (refl, (refl, (refl, (refl, (refl, (refl, (refl, (refl, (refl, tt)))))))))

pub load_kept : IsEventGraph at_load
load_kept = record {
  is_graph = graph;
  is_tree = λ k n class h. each (λ i (p : ℕ × ℕ). p.0 ≤ i) at_load.children (omega arith, tt) k (n, class) h;
  once = λ i j x h k. sym (child i x h) ∙ child j x k;
  placed = All-from_recursion (λ (p : ℕ × ℕ). p.1 ≤ 1) at_load.places (omega arith, (omega arith, (omega arith, (omega arith, tt))));
  place_once = λ i j x h k. sym (place i x h) ∙ place j x k;
}
  where
    child : (i : ℕ) (p : ℕ × ℕ) → slice_get at_load.children i ≡ Some p → p.0 ≡ i
    child = each (λ i (p : ℕ × ℕ). p.0 ≡ i) at_load.children (refl, tt)

    place : (i : ℕ) (p : ℕ × ℕ) → slice_get at_load.places i ≡ Some p → 2 * p.1 + p.0 ≡ i
    place = each (λ i (p : ℕ × ℕ). 2 * p.1 + p.0 ≡ i) at_load.places (refl, (refl, (refl, (refl, tt))))

pub kept : AreKept loads_a loads_not_a at_load
kept = record {
  left_sound = held.sound load_cover same_cover load_sound same_sound refl refl holds_load loads_load;
  right_sound = held.sound load_not_cover not_cover load_not_sound not_sound refl refl holds_not loads_not;
  left = held.is_circuit load_cover same_cover load_sound same_sound refl refl holds_load loads_load;
  right = held.is_circuit load_not_cover not_cover load_not_sound not_sound refl refl holds_not loads_not;
  events = load_kept;
}

pub left_function : IsFunctionOf loads_a at_load 4 (over_load 10)
unfolding flip place_lit simple_and short_and one_and under restricted with_sign is_conjunct operands node_operands
left_function =
    held.y_function load_cover same_cover load_sound same_sound refl refl holds_load loads_load 10 15 next_low next_high (omega arith) (omega arith) (7, refl, refl) 10
    (10 ∷ [], (10, [], next_low, refl, refl), (10, (10, (10, (10, refl, refl), (11, refl, refl)), refl), refl))
    (omega arith)
  where
    next_low : Builds held_nodes (named_places at_load) (held.next_tree load_cover same_cover load_sound same_sound refl refl holds_load loads_load false) 10
    next_low = (
      6 ∷ 8 ∷ 0 ∷ [],
      (6, 8 ∷ 0 ∷ [], (2, refl, (3, refl, refl)), (8, 0 ∷ [], (3, refl, (4, refl, refl)), (0, [], refl, refl, refl), refl), refl),
      (10, (10, (10, (6, refl, (10, (5, refl, refl), (10, refl, refl))), (11, refl, refl)), (10, (0, (7, refl, (7, refl, (0, refl, refl))), (11, refl, refl)), refl)), refl),
    )

    next_high : Builds held_nodes (named_places at_load) (held.next_tree load_cover same_cover load_sound same_sound refl refl holds_load loads_load true) 15
    next_high = (
      6 ∷ 8 ∷ 1 ∷ [],
      (6, 8 ∷ 1 ∷ [], (2, refl, (3, refl, refl)), (8, 1 ∷ [], (3, refl, (4, refl, refl)), (1, [], refl, refl, refl), refl), refl),
      (15, (10, (10, (6, refl, (10, (5, refl, refl), (10, refl, refl))), (11, refl, refl)), (15, (7, (7, refl, (7, refl, (7, refl, refl))), (14, (7, refl, refl), refl)), refl)), refl),
    )

-- B's latch, what it takes over with itself as 0 and as 1
low_built : Builds held_nodes (named_places at_load) (held.next_tree load_not_cover not_cover load_not_sound not_sound refl refl holds_not loads_not false) 12
unfolding flip place_lit simple_and
low_built = (
  6 ∷ 8 ∷ 0 ∷ [],
  (6, 8 ∷ 0 ∷ [], (2, refl, (3, refl, refl)), (8, 0 ∷ [], (3, refl, (4, refl, refl)), (0, [], refl, refl, refl), refl), refl),
  (12, (12, (12, (6, refl, (12, (6, refl, refl), (12, refl, refl))), (13, refl, refl)), (12, (0, (7, refl, (7, refl, (0, refl, refl))), (13, refl, refl)), refl)), refl),
)

high_built : Builds held_nodes (named_places at_load) (held.next_tree load_not_cover not_cover load_not_sound not_sound refl refl holds_not loads_not true) 17
unfolding flip place_lit simple_and
high_built = (
  6 ∷ 8 ∷ 1 ∷ [],
  (6, 8 ∷ 1 ∷ [], (2, refl, (3, refl, refl)), (8, 1 ∷ [], (3, refl, (4, refl, refl)), (1, [], refl, refl, refl), refl), refl),
  (17, (12, (12, (6, refl, (12, (6, refl, refl), (12, refl, refl))), (13, refl, refl)), (17, (7, (7, refl, (7, refl, (7, refl, refl))), (16, (8, refl, refl), refl)), refl)), refl),
)

pub right_function : IsFunctionOf loads_not_a at_load 4 (over_load 13)
unfolding flip place_lit simple_and short_and one_and under restricted with_sign is_conjunct operands node_operands
right_function =
    held.y_function load_not_cover not_cover load_not_sound not_sound refl refl holds_not loads_not 12 17 low_built high_built (omega arith) (omega arith) (7, refl, refl) 13
    (12 ∷ [], (12, [], low_built, refl, refl), (13, (13, (13, (13, refl, refl), (12, refl, refl)), refl), refl))
    (omega arith)

pub right_latch_function : IsFunctionOf loads_not_a at_load 2 (over_load 12)
unfolding flip place_lit simple_and short_and one_and under restricted with_sign is_conjunct operands node_operands
right_latch_function = held.latch_function load_not_cover not_cover load_not_sound not_sound refl refl holds_not loads_not 12 17 low_built high_built (omega arith) (omega arith) (7, refl, refl)

pub left_nodes : HoldsNodes loads_a at_load.children (signal_start 4)
left_nodes = held.nodes_made load_cover same_cover load_sound same_sound refl refl holds_load loads_load

pub right_nodes : HoldsNodes loads_not_a at_load.children (signal_start 4)
right_nodes = held.nodes_made load_not_cover not_cover load_not_sound not_sound refl refl holds_not loads_not

pub left_is : IsEventFunction both_held at_load (Left 4) (over_load 10)
left_is = (signals_are_both loads_a loads_not_a at_load kept).0 4 (over_load 10) left_function left_nodes

right_is : IsEventFunction both_held at_load (Right 4) (over_load 13)
right_is = (signals_are_both loads_a loads_not_a at_load kept).1 4 (over_load 13) right_function right_nodes

pub merge : IsMergeOf at_load (2 ∷ 3 ∷ []) (2 ∷ 3 ∷ []) (2 ∷ 3 ∷ [])
merge = record { ordered = each_pair (GoesBefore at_load) (2 ∷ 3 ∷ []) ((inr (refl, inr (refl, omega arith)), tt), (tt, tt)); exactly = λ v. (λ h. inl h, λ h. either v h) }
  where
    either : (v : ℕ) → Contains (2 ∷ 3 ∷ []) v ⊎ Contains (2 ∷ 3 ∷ []) v → Contains (2 ∷ 3 ∷ []) v
    either v (inl h) = h
    either v (inr h) = h

pub right_latch_is : IsEventFunction both_held at_load (Right 2) (over_load 12)
right_latch_is = (signals_are_both loads_a loads_not_a at_load kept).1 2 (over_load 12) right_latch_function (held.latch_nodes_made load_not_cover not_cover load_not_sound not_sound refl refl holds_not loads_not)

pub asks : AsksEventPair both_held at_load (Left 4) (Right 4) y_query
unfolding simple_and
asks = record {
  left_function = over_load 10;
  right_function = over_load 13;
  left_is = left_is;
  right_is = right_is;
  left = refl;
  right = refl;
  care = refl;
  care_within = omega arith;
  vars = merge;
}

-- where e is 1, both are a
same_bits : (b c : Bool) → b ≡ true → (b && c) ≡ not (b && not c)
same_bits true true h = refl
same_bits true false h = refl
same_bits false c h = cc

pub same : IsSame held_nodes y_query
unfolding value node_bits bits_from lit_bit
same a h = same_bits (a 2) (a 3) h

-- the circuits side by side
abbrev pub left_circuit : Circuit ℕ
left_circuit = circuit_of loads_a.net

abbrev pub right_circuit : Circuit ℕ
right_circuit = circuit_of loads_not_a.net

abbrev pub whole : Circuit (Either ℕ ℕ)
whole = joined left_circuit right_circuit

pub left_net : IsNet left_circuit 5
left_net = held.is_net load_cover same_cover load_sound same_sound refl refl holds_load loads_load

pub right_net : IsNet right_circuit 5
right_net = held.is_net load_not_cover not_cover load_not_sound not_sound refl refl holds_not loads_not

pub single : IsSingleDriven whole
single = joined_single left_circuit right_circuit 5 5 left_net right_net

pub number_once : (p : Either ℕ ℕ) (i j : ℕ) → IsInputNumber whole both_held.order p i → IsInputNumber whole both_held.order p j → i ≡ j
number_once p i j h k = joined_number_once left_circuit right_circuit 5 5 left_net right_net (0 ∷ 1 ∷ []) (0 ∷ 1 ∷ []) refl p i j h k

pub numbered : AreNumbered left_circuit right_circuit (0 ∷ 1 ∷ []) (0 ∷ 1 ∷ [])
numbered = record {
  left_once = λ p q i h k. once p q i h k;
  right_once = λ p q i h k. once p q i h k;
  shared = λ p q i h k. let n = beside_is_input left_circuit.inputs (0 ∷ 1 ∷ []) p i h in (n.0, n.1, subst (λ z. Contains right_circuit.inputs (record { name = n.0; place = z })) (once p q i h k) n.1);
}
  where
    once : (p q i : ℕ) → StandsBeside left_circuit.inputs (0 ∷ 1 ∷ []) p i → StandsBeside left_circuit.inputs (0 ∷ 1 ∷ []) q i → p ≡ q
    once p q i h k = one_place left_circuit.inputs (0 ∷ 1 ∷ []) (numbers_distinct-sound (0 ∷ 1 ∷ []) refl) p q i h k

abbrev pub left_q : IsHold both_held (Left 2) (Left 3)
left_q = record { e = Left 0; a = Left 1; i = 0; j = 1; load = load_cover; gate = (0, omega arith, refl); e_is = inl (refl, refl); a_is = inr (inl (refl, refl)); holds = holds_load; loads = loads_load }

abbrev pub right_q : IsHold both_held (Right 2) (Right 3)
right_q = record { e = Right 0; a = Right 1; i = 0; j = 1; load = load_not_cover; gate = (3, omega arith, refl); e_is = inr (inr (inl (refl, refl))); a_is = inr (inr (inr (inl (refl, refl)))); holds = holds_not; loads = loads_not }

pub left_latch : IsLatch whole (codes "q") (Left 2) (Left 3)
left_latch = (2, omega arith, refl)

pub right_latch : IsLatch whole (codes "q") (Right 2) (Right 3)
right_latch = (5, omega arith, refl)

abbrev HoldOfClass : List ℕ → Either ℕ ℕ → Either ℕ ℕ → Type 0
HoldOfClass name u next = (h : IsHold both_held u next) × (both_held.class u ≡ suc h.i) × (both_held.class u ≡ 1)

each_hold : (name : List ℕ) (u next : Either ℕ ℕ) → IsLatch whole name u next → HoldOfClass name u next
each_hold name u next latch = each_latch HoldOfClass whole.equations ((left_q, refl, refl), ((right_q, refl, refl), tt)) name u next latch

pub all_hold : (name : List ℕ) (u next : Either ℕ ℕ) → IsLatch whole name u next → IsHold both_held u next
all_hold name u next latch = (each_hold name u next latch).0

class_is : (name : List ℕ) (u next : Either ℕ ℕ) (latch : IsLatch whole name u next) → both_held.class u ≡ suc (all_hold name u next latch).i
unfolding all_hold
class_is name u next latch = (each_hold name u next latch).1

pub depths : LatchesHaveDepths both_held.circuit (IsEnabled both_held.circuit)
depths = hold_depths both_held joined_same single number_once all_hold

abbrev pub order : List (Either ℕ ℕ)
order = Left 2 ∷ Right 2 ∷ []

abbrev LatchAt : Either ℕ ℕ → Type 0
LatchAt u = (name : List ℕ) × (next : Either ℕ ℕ) × IsLatch whole name u next

lq : LatchAt (Left 2)
lq = (codes "q", Left 3, left_latch)

rq : LatchAt (Right 2)
rq = (codes "q", Right 3, right_latch)

first_class : (front : List (Either ℕ ℕ)) (v : Either ℕ ℕ) → LatchAt v → Each LatchAt front → both_held.class v ≤ classes_of both_held front + 1 → both_held.class v ≡ 1 → IsInFirstClass both_held front v
first_class front v at latches most one =
    in_first both_held joined_same single number_once all_hold class_is front v at (λ u h. each_at LatchAt front latches u h) most (λ k l. absurd (omega (arith, l, one)))

pub class_map : IsClassMap both_held order
class_map = record {
  plain = λ name u next latch off. absurd (off (hold_enabled both_held joined_same single number_once name u next latch (all_hold name u next latch)));
  each = λ front after v e. each_split (IsInFirstClass both_held) order splits front after v e;
}
  where
    splits : IsInFirstClass both_held [] (Left 2) × (IsInFirstClass both_held (Left 2 ∷ []) (Right 2) × Unit {0})
    splits = (first_class [] (Left 2) lq tt (omega arith) refl, (first_class (Left 2 ∷ []) (Right 2) rq (lq, tt) (omega arith) refl, tt))

pub latch_order : IsLatchOrder both_held order
latch_order = in_their_order both_held joined_same single number_once all_hold class_is apart (λ u h. each_at LatchAt order (lq, (rq, tt)) u h)
    (λ name u next latch. each_latch (λ m v to. Contains order v) whole.equations ((0, omega arith, refl), ((1, omega arith, refl), tt)) name u next latch)
  where
    apart : AllPairs (λ u v. u ≢ v) order
    apart = each_pair (λ u v. u ≢ v) order (((λ e. cc), tt), (tt, tt))

abbrev pub classes : HasClasses both_held
classes = record { numbered = refl; order = order; is_order = latch_order; is_map = class_map }

-- either output reaches its latch at the root, and so one child, by class 1
abbrev pub PairLatches : ℕ → Either ℕ ℕ → Type 0
PairLatches q v = ConeLatches whole (Left 4) v ⊎ ConeLatches whole (Right q) v

left_cone : ConeLatches whole (Left 4) (Left 2)
left_cone = (codes "q", Left 3, left_latch, Reaches.there (Reads.by_gate {fanins = Left 2 ∷ []} (1, omega arith, refl) (0, omega arith, refl)) Reaches.here)

class_one : (q : ℕ) (v : Either ℕ ℕ) → PairLatches q v → both_held.class v ≡ 1
class_one q v (inl h) = (each_hold h.0 v h.1 h.2).2
class_one q v (inr h) = (each_hold h.0 v h.1 h.2).2

pub size : (q : ℕ) → IsEventSize both_held (Left 4) (Right q) 2
size q = record {
  nodes = [] ∷ (1 ∷ []) ∷ [];
  distinct = each_pair (λ m n. m ≢ n) ([] ∷ (1 ∷ []) ∷ []) (((λ e. cc), tt), (tt, tt));
  exactly = λ node. (λ h. there node (Contains-cases [] node ((1 ∷ []) ∷ []) h), back node);
  number = refl;
}
  where
    Node_is : List ℕ → Type 0
    Node_is node = IsNode both_held (IsEnabled whole) (PairLatches q) node

    there : (node : List ℕ) → ([] ≡ node) ⊎ Contains ((1 ∷ []) ∷ []) node → IsNode both_held (IsEnabled whole) (PairLatches q) node
    there node (inl e) = subst Node_is e tt
    there node (inr h) = subst Node_is (only (1 ∷ []) node h) (Left 2, inl left_cone, refl)

    back : (node : List ℕ) → IsNode both_held (IsEnabled whole) (PairLatches q) node → Contains ([] ∷ (1 ∷ []) ∷ []) node
    back [] h = Contains-head [] ((1 ∷ []) ∷ [])
    back (k ∷ node) h =
        let at = at_root both_held joined_same single number_once all_hold (PairLatches q) node h.0 h.1 in
        let class : 1 ≡ k = sym (class_one q h.0 at.1) ∙ h.2 in
        subst (Contains ([] ∷ (1 ∷ []) ∷ [])) (λ i. class i ∷ sym at.0 i) (Contains-tail [] (1 ∷ []) ((1 ∷ []) ∷ []) (Contains-head (1 ∷ []) []))

pub not_always : ReachesAlways both_held (Left 4) → ⊥
not_always h = let one : 1 ≡ 0 = h [] (Left 2) left_cone in omega (arith, one)

-- y is the one output of either
pub output_is : (name : List ℕ) (p : ℕ) → Contains left_circuit.outputs (record { name = name; place = p }) → 4 ≡ p
output_is name p h = each_at (λ (n : Named ℕ). 4 ≡ n.place) left_circuit.outputs (refl, tt) (record { name = name; place = p }) h

pub left_depths : LatchesHaveDepths left_circuit (Enabled loads_a)
left_depths = held.depths load_cover same_cover load_sound same_sound refl refl holds_load loads_load

pub right_depths : LatchesHaveDepths right_circuit (Enabled loads_not_a)
right_depths = held.depths load_not_cover not_cover load_not_sound not_sound refl refl holds_not loads_not

pub left_y_depth : IsDepth left_circuit (Enabled loads_a) 4 1
left_y_depth = held.y_depth load_cover same_cover load_sound same_sound refl refl holds_load loads_load

pub right_y_depth : IsDepth right_circuit (Enabled loads_not_a) 4 1
right_y_depth = held.y_depth load_not_cover not_cover load_not_sound not_sound refl refl holds_not loads_not

-- each number is below 2
pub left_below : (q i : ℕ) → IsInputNumber left_circuit loads_a.order q i → i < 2
left_below q i h = (held.own_number load_cover same_cover load_sound same_sound refl refl holds_load loads_load q i h).1

pub right_below : (q i : ℕ) → IsInputNumber right_circuit loads_not_a.order q i → i < 2
right_below q i h = (held.own_number load_not_cover not_cover load_not_sound not_sound refl refl holds_not loads_not q i h).1

pub right_latch_depth : IsDepth right_circuit (Enabled loads_not_a) 2 1
right_latch_depth = held.latch_depth load_not_cover not_cover load_not_sound not_sound refl refl holds_not loads_not

-- the paths of the pair's event nodes have class 1 alone
pub one_class : (q : ℕ) (node : List ℕ) → IsNode both_held (IsEnabled whole) (PairLatches q) node → (class : ℕ) → Contains node class → 1 ≡ class
one_class q [] h class among = absurd (omega (arith, among.1))
one_class q (k ∷ node) h class among =
    let at = at_root both_held joined_same single number_once all_hold (PairLatches q) node h.0 h.1 in
    let first : 1 ≡ k = sym (class_one q h.0 at.1) ∙ h.2 in
    first ∙ only k class (subst (λ (path : List ℕ). Contains (k ∷ path) class) at.0 among)
