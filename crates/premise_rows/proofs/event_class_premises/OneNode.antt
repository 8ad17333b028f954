-- The enable behind a plain latch reaches one event node, and is counted.
use Rattle.std.proofs.Common.{◌≡◌, ◌∙◌, ℕ, zero, suc, ◌<◌, ◌≤◌, List, [], ◌∷◌, slice_get, Option, Some, None, refl, sym, ap, subst, arith, inl, inr}
use Rattle.std.specs.Prelude.{◌⊎◌, ◌==◌, if◌then◌else◌, codes}
use Rattle.std.specs.List.{All, Contains}
use Rattle.std.proofs.lemmas.List.Elements.{All-from_recursion}
use Rattle.std.proofs.lemmas.Option.{none-some}
use Rattle.circuit_theory.specs.Circuit.{Circuit, Equation, Gate, Latch, Port as port_equation, IsLatch, Reads, Reaches}
use Rattle.circuit_theory.specs.EventSizes.{EventVisits, IsOther, Start}
use Rattle.circuit_theory.specs.EventTotals.{StartLatches}
use Rattle.circuit_theory.specs.Frame.{EventSide, IsNode, ReachedAt}
use Rattle.circuit_theory.specs.Joined.{Left}
use Rattle.circuit_theory.specs.Net.{IsNet}
use Rattle.circuit_theory.proofs.Lists.{Contains-head, only}
use Rattle.circuit_theory.proofs.Sums.{same_or_not}
use Rattle.circuit_laws.proofs.finite_laws.EnabledDecided.{steps}
use Rattle.base_tables.specs.Table.{AreDistinct}
use Rattle.base_tables.proofs.Appended.{at-one, distinct-push}
use Rattle.sec_base.specs.Cover.{IsCoverSound}
use Rattle.flat_net.specs.declared.parts.Gate.{Gate as NetGate}
use Rattle.flat_net.specs.declared.parts.Port.{Port}
use Rattle.flat_net.specs.declared.signals.Signal.{Signal}
use Rattle.flat_net.specs.Sound.{Drives, IsInputOf, IsGateOf, IsLatchOf, IsSound}
use Rattle.flat_net.specs.View.{circuit_of}
use Rattle.flat_net.proofs.Nets.{sound_is_net}
use Rattle.event_nodes.specs.Adds.{Adds}
use Rattle.event_nodes.specs.aig.Graph.{IsAbove}
use Rattle.event_nodes.specs.aig.Node.{Node}
use Rattle.event_nodes.specs.aig.Node.TheVariants.{Constant}
use Rattle.event_nodes.specs.Nodes.{IsEventGraph, path_of}
use Rattle.event_nodes.specs.Reach.{IsListedAt}
use Rattle.event_nodes.specs.View.{Enabled, side_of}
use Rattle.event_nodes.specs.Visited.{AreNodesFrom, HoldsNodes, IsVisitedPair}
use Rattle.edbf_unfold.specs.event_literals.event_walk.Walk.{IsCounting, HasCountedStart, enable_start}
use Rattle.event_classes.specs.event_functions.class_totals.Laws.{nothing}
use Rattle.event_classes.specs.event_functions.class_totals.Totals.{HaveCounted}
use Rattle.event_classes.proofs.event_functions.class_totals.Going.{totals_begin, totals_go_on}
use Rattle.event_classes.proofs.event_functions.class_totals.Over.{totals_are_within, few_nodes_are_within}
use Rattle.call_rows.specs.circuit_samples.event_samples.Samples.{load_cover}
use Rattle.call_rows.proofs.circuit_samples.Each.{each_at, each_latch}
use Rattle.premise_rows.specs.event_pair_premises.Held.{loads_a}
use Rattle.premise_rows.specs.event_class_premises.OneNode.{under_r, late_latch, one_child, one_node, of_late, NodesMeetPremises}
use Rattle.premise_rows.proofs.block_premises.TurningNets.{each, one_name}
use Rattle.premise_rows.proofs.event_pair_premises.HeldPair.{kept}

names_distinct : AreDistinct (codes "e" ∷ codes "a" ∷ codes "r" ∷ codes "q" ∷ codes "n" ∷ [])
names_distinct =
    distinct-push (codes "e" ∷ codes "a" ∷ codes "r" ∷ codes "q" ∷ []) (codes "n")
    (distinct-push (codes "e" ∷ codes "a" ∷ codes "r" ∷ []) (codes "q") (distinct-push (codes "e" ∷ codes "a" ∷ []) (codes "r") (distinct-push (codes "e" ∷ []) (codes "a") (one_name (codes "e")) refl) refl) refl) refl

ordered : (i j : ℕ) (g h : NetGate) → i < j → slice_get under_r.net.gates i ≡ Some g → slice_get under_r.net.gates j ≡ Some h → g.out.0 < h.out.0
ordered i j g h less l r = let second : j ≡ 0 = each (λ k (y : NetGate). k ≡ 0) under_r.net.gates (refl, tt) j h r in absurd (omega (arith, second, less))

sound : IsSound under_r.net
sound = record {
  inputs = each (IsInputOf under_r.net) under_r.net.inputs (record { owner = refl; named = refl }, (record { owner = refl; named = refl }, tt));
  gates = each (IsGateOf under_r.net) under_r.net.gates (
    record { owner = refl; above = All-from_recursion (λ (f : Signal). f.0 < 4) (record { 0 = 2 } ∷ record { 0 = 1 } ∷ record { 0 = 3 } ∷ []) (omega arith, (omega arith, (omega arith, tt))); cover = load_cover; covered = refl; width = refl },
    tt,
  );
  ordered = ordered;
  latches = each (IsLatchOf under_r.net) under_r.net.latches (record { owner = refl; named = refl; within = omega arith }, (record { owner = refl; named = refl; within = omega arith }, tt));
  drivers = each (Drives under_r.net) under_r.net.drivers ((_, refl, refl), ((_, refl, refl), ((_, refl, refl), ((_, refl, refl), ((_, refl, refl), tt)))));
  outputs = All-from_recursion (λ (port : Port). port.signal.0 < 5) under_r.net.outputs (omega arith, tt);
  covers = All-from_recursion IsCoverSound (load_cover ∷ []) (kept.left_sound.covers 0 load_cover (omega arith), tt);
  named = refl;
  distinct = names_distinct;
  few = omega arith;
  few_inputs = omega arith;
  few_gates = omega arith;
  few_latches = omega arith;
  few_covers = omega arith;
}

abbrev c : Circuit ℕ
c = circuit_of under_r.net

abbrev s : EventSide ℕ
s = side_of under_r

abbrev x : Start ℕ
x = enable_start late_latch

net : IsNet c 5
net = sound_is_net under_r.net sound

latch_r : IsLatch c (codes "r") 2 0
latch_r = (1, omega arith, refl)

-- what reads what
abbrev ReadsSo : ℕ → ℕ → Type 0
ReadsSo p q = (p ≡ 4) × (1 ≤ q) × (q ≤ 3)

abbrev ReadsOf : Equation ℕ → Type 0
ReadsOf (Gate out fanins cover) = (q : ℕ) → Contains fanins q → ReadsSo out q
ReadsOf (Latch name out next) = Unit {0}
ReadsOf (port_equation out from) = ⊥

gate_reads : (q : ℕ) → Contains (2 ∷ 1 ∷ 3 ∷ []) q → ReadsSo 4 q
gate_reads q m = each_at (ReadsSo 4) (2 ∷ 1 ∷ 3 ∷ []) ((refl, omega arith, omega arith), ((refl, omega arith, omega arith), ((refl, omega arith, omega arith), tt))) q m

reading : {p q : ℕ} → Reads c p q → ReadsSo p q
reading (Reads.by_gate {out = o} {q = q} {fanins = fanins} {cover = cover} h m) = each_at ReadsOf c.equations (gate_reads, (tt, (tt, tt))) (Gate o fanins cover) h q m
reading (Reads.by_port {out = o} {from = from} h) = absurd (each_at ReadsOf c.equations (gate_reads, (tt, (tt, tt))) (port_equation o from) h)

latch_is : (name : List ℕ) (u next : ℕ) → IsLatch c name u next → ((u ≡ 2) × (next ≡ 0)) ⊎ ((u ≡ 3) × (next ≡ 4))
latch_is name u next is = each_latch (λ m v to. ((v ≡ 2) × (to ≡ 0)) ⊎ ((v ≡ 3) × (to ≡ 4))) c.equations (inl (refl, refl), (inr (refl, refl), tt)) name u next is

r_next : (name : List ℕ) (u next : ℕ) → IsLatch c name u next → u ≡ 2 → next ≡ 0
r_next name u next is two = go (latch_is name u next is)
  where
    go : ((u ≡ 2) × (next ≡ 0)) ⊎ ((u ≡ 3) × (next ≡ 4)) → next ≡ 0
    go (inl h) = h.1
    go (inr h) = let k = h.0 in absurd (omega (arith, k, two))

-- e reads nothing, so that r, which takes it over, is plain
e_alone : (u : ℕ) → Reaches c 0 u → 0 ≡ u
e_alone u r = go (steps c same_or_not net.single r)
  where
    go : (0 ≡ u) ⊎ ((q : ℕ) × Reads c 0 q × Reaches c q u) → 0 ≡ u
    go (inl e) = e
    go (inr h) = let k = (reading h.1).0 in absurd (omega (arith, k))

r_plain : Enabled under_r 2 → ⊥
r_plain on = let e = e_alone 2 (subst (λ (p : ℕ). Reaches c p 2) (r_next on.name 2 on.next on.latch refl) on.self_edge.1) in omega (arith, e)

-- a place that is visited
data IsSeen : Option ℕ → ℕ → List ℕ → Type 0 where
  at_root : {q : ℕ} → 1 ≤ q → q ≤ 4 → IsSeen (Some 3) q []
  at_child : IsSeen None 0 (0 ∷ [])

onward : {put : Option ℕ} {q r : ℕ} {node : List ℕ} → IsSeen put q node → ReadsSo q r → IsSeen put r node
onward (IsSeen.at_root l m) h = IsSeen.at_root h.1 (let k = h.2 in omega (arith, k))
onward IsSeen.at_child h = let k = h.0 in absurd (omega (arith, k))

behind : {put : Option ℕ} {q : ℕ} {node : List ℕ} → IsSeen put q node → (next : ℕ) → ((q ≡ 2) × (next ≡ 0)) ⊎ ((q ≡ 3) × (next ≡ 4)) → IsOther put q → (q ≡ 2) × (next ≡ 0) × (node ≡ [])
behind (IsSeen.at_root l m) next (inl h) other = (h.0, h.1, refl)
behind (IsSeen.at_root l m) next (inr h) other = absurd (other h.0)
behind IsSeen.at_child next (inl h) other = let k = h.0 in absurd (omega (arith, k))
behind IsSeen.at_child next (inr h) other = let k = h.0 in absurd (omega (arith, k))

seen : {put : Option ℕ} {q : ℕ} {node : List ℕ} → EventVisits s (Enabled under_r) (x ∷ []) put q node → IsSeen put q node
seen (EventVisits.start {s = z} h) = subst (λ (y : Start ℕ). IsSeen y.left_out y.place []) (only x z h) (IsSeen.at_root (omega arith) (omega arith))
seen (EventVisits.reads before reads) = onward (seen before) (reading reads)
seen (EventVisits.plain {q = q} {next = next} {node = node} {name = name} before other is off) =
    let b = behind (seen before) next (latch_is name q next is) other in
    subst (λ (z : ℕ). IsSeen None z (s.class q ∷ node)) (sym b.1) (subst (λ (z : ℕ). IsSeen None 0 (s.class z ∷ node)) (sym b.0) (subst (λ (path : List ℕ). IsSeen None 0 (0 ∷ path)) (sym b.2) IsSeen.at_child))
seen (EventVisits.held {q = q} {next = next} {node = node} {name = name} before other is on) =
    let b = behind (seen before) next (latch_is name q next is) other in
    absurd (r_plain (subst (Enabled under_r) b.0 on))

-- whatever else is unfolded
module _ (starts : List (Start ℕ)) (among : Contains starts x) where
  abbrev Visits : ℕ → Type 0
  Visits q = EventVisits s (Enabled under_r) starts (Some 3) q []

  visits_next : Visits 4
  visits_next = EventVisits.start among

  visits_r : Visits 2
  visits_r = EventVisits.reads visits_next (Reads.by_gate {fanins = 2 ∷ 1 ∷ 3 ∷ []} (0, omega arith, refl) (0, omega arith, refl))

  visits_a : Visits 1
  visits_a = EventVisits.reads visits_next (Reads.by_gate {fanins = 2 ∷ 1 ∷ 3 ∷ []} (0, omega arith, refl) (1, omega arith, refl))

  visits_q : Visits 3
  visits_q = EventVisits.reads visits_next (Reads.by_gate {fanins = 2 ∷ 1 ∷ 3 ∷ []} (0, omega arith, refl) (2, omega arith, refl))

  visits_e : EventVisits s (Enabled under_r) starts None 0 (0 ∷ [])
  visits_e = EventVisits.plain {name = codes "r"} visits_r (λ e. omega (arith, e)) latch_r r_plain

  all_visited : All (IsVisitedPair under_r one_child starts) of_late.places
  all_visited = All-from_recursion (IsVisitedPair under_r one_child starts) of_late.places (
    record { node = omega arith; within = omega arith; out = Some 3; visit = visits_next },
    (
      record { node = omega arith; within = omega arith; out = Some 3; visit = visits_a },
      (
        record { node = omega arith; within = omega arith; out = Some 3; visit = visits_r },
        (record { node = omega arith; within = omega arith; out = Some 3; visit = visits_q }, (record { node = omega arith; within = omega arith; out = None; visit = visits_e }, tt)),
      ),
    ),
  )

-- r is reached at the root, and nothing onward
abbrev Begun : ℕ → Type 0
Begun = StartLatches s (x ∷ [])

r_begun : Begun 2
r_begun = (x, Contains-head x [], (codes "r", 0, latch_r, Reaches.there (Reads.by_gate {fanins = 2 ∷ 1 ∷ 3 ∷ []} (0, omega arith, refl) (0, omega arith, refl)) Reaches.here), λ e. omega (arith, e))

begun_is : (v : ℕ) → Begun v → 2 ≡ v
begun_is v h = go (latch_is h.2.0 v h.2.1 h.2.2) (subst (λ (y : Start ℕ). IsOther y.left_out v) (sym (only x h.0 h.1)) h.3)
  where
    go : ((v ≡ 2) × (h.2.1 ≡ 0)) ⊎ ((v ≡ 3) × (h.2.1 ≡ 4)) → IsOther (Some 3) v → 2 ≡ v
    go (inl k) other = sym k.0
    go (inr k) other = absurd (other k.0)

none_onward : (u v : ℕ) → 2 ≡ u → (name : List ℕ) (next : ℕ) → IsLatch c name u next → (other : List ℕ) (to : ℕ) → IsLatch c other v to → Reaches c next v → ⊥
none_onward u v r name next is other to is_other reaches = go (latch_is name u next is) (latch_is other v to is_other)
  where
    go : ((u ≡ 2) × (next ≡ 0)) ⊎ ((u ≡ 3) × (next ≡ 4)) → ((v ≡ 2) × (to ≡ 0)) ⊎ ((v ≡ 3) × (to ≡ 4)) → ⊥
    go (inr h) l = let k = h.0 in omega (arith, k, r)
    go (inl h) (inl l) = let e = e_alone v (subst (λ (p : ℕ). Reaches c p v) h.1 reaches) in let k = l.0 in omega (arith, e, k)
    go (inl h) (inr l) = let e = e_alone v (subst (λ (p : ℕ). Reaches c p v) h.1 reaches) in let k = l.0 in omega (arith, e, k)

reached_is : (path : List ℕ) (v : ℕ) → ReachedAt s (Enabled under_r) Begun path v → (path ≡ []) × (2 ≡ v)
reached_is [] v h = (refl, begun_is v h)
reached_is (k ∷ path) v h = absurd (none_onward h.0 v (reached_is path h.0 h.1).1 h.3.0 h.3.1 h.3.2 h.3.3.0 h.3.3.1 h.3.3.2 h.3.3.3)

reached : AreNodesFrom under_r one_child x 0
reached k n class l h =
    let e = at-one {X = ℕ × ℕ} (0, 0) (n, class) k h in
    subst (λ (p : ℕ × ℕ). IsNode s (Enabled under_r) Begun (p.1 ∷ path_of one_child p.0)) e.1 (2, r_begun, refl)

all_made : HoldsNodes under_r one_child x
all_made [] h = (0, omega arith, refl)
all_made (k ∷ path) h =
    let at = reached_is path h.0 h.1 in
    let class : 0 ≡ k = ap s.class at.1 ∙ h.2 in
    (1, omega arith, (λ i. class i ∷ sym at.0 i))

made : Adds (λ (q : ℕ × ℕ). Unit {0}) [] one_child
made = record { more = one_child; is = refl; each = λ i d l. tt }

counting : IsCounting under_r x [] one_child nothing of_late
counting = record { more = made; nodes = reached; counted = λ starts among all. all_visited starts among }

listed : (q : ℕ) → 1 ≤ q → q ≤ 4 → Contains of_late.places (0, q)
listed zero l m = absurd (omega (arith, l))
listed (suc zero) l m = (1, omega arith, refl)
listed (suc (suc zero)) l m = (2, omega arith, refl)
listed (suc (suc (suc zero))) l m = (3, omega arith, refl)
listed (suc (suc (suc (suc zero)))) l m = (0, omega arith, refl)
listed (suc (suc (suc (suc (suc q))))) l m = absurd (omega (arith, m))

listed_seen : {put : Option ℕ} {q : ℕ} {path : List ℕ} → IsSeen put q path → IsListedAt one_child of_late.places path q
listed_seen (IsSeen.at_root {q = q} l m) = record { node = 0; made = omega arith; path_is = refl; listed = listed q l m }
listed_seen IsSeen.at_child = record { node = 1; made = omega arith; path_is = refl; listed = (4, omega arith, refl) }

counted : HasCountedStart under_r x one_child nothing of_late
counted = record {
  on = record { weighed = record { sum = refl; small = omega arith; few = omega arith }; few = omega arith; more = record { more = of_late.places; is = refl; each = λ i d l. tt } };
  holds = λ put q path visit. listed_seen (seen visit);
  nodes = all_made;
}

no_entry : (k n class : ℕ) → slice_get {X = ℕ × ℕ} [] k ≡ Some (n, class) → n ≤ 0
no_entry k n class h = absurd (none-some (n, class) h)

with_it : HaveCounted under_r loads_a one_child (Left 3 ∷ []) of_late nothing
with_it = (totals_go_on under_r loads_a [] one_child [] 1 late_latch nothing nothing of_late sound kept.left_sound no_entry (totals_begin under_r loads_a)).0 refl counting counted

events : IsEventGraph one_node
events = record {
  is_graph = record { constant = refl; ordered = each IsAbove (Constant ∷ []) (tt, tt); once = λ i j node h k. sym (place i node h) ∙ place j node k; few = omega arith };
  is_tree = λ k n class h. (let e = ap (λ (p : ℕ × ℕ). p.0) (at-one {X = ℕ × ℕ} (0, 0) (n, class) k h).1 in omega (arith, e));
  once = λ i j p h k. (at-one (0, 0) p i h).0 ∙ sym (at-one (0, 0) p j k).0;
  placed = λ i d l. absurd (omega (arith, l));
  place_once = λ i j p h k. absurd (none-some p h);
}
  where
    place : (i : ℕ) (node : Node) → slice_get (Constant ∷ []) i ≡ Some node → 0 ≡ i
    place = each (λ i (node : Node). 0 ≡ i) (Constant ∷ []) (refl, tt)

-- each has its own signal
distinct : AreDistinct of_late.places
distinct i j p h k = sym (place i p h) ∙ place j p k
  where
    place : (n : ℕ) (q : ℕ × ℕ) → slice_get of_late.places n ≡ Some q → (if q.1 == 0 then 4 else if q.1 == 4 then 0 else q.1) ≡ n
    place = each (λ n (q : ℕ × ℕ). (if q.1 == 0 then 4 else if q.1 == 4 then 0 else q.1) ≡ n) of_late.places (refl, (refl, (refl, (refl, (refl, tt)))))

pub nodes_meet_premises : NodesMeetPremises
nodes_meet_premises = record {
  sound = sound;
  other_sound = kept.left_sound;
  at = refl;
  begins = totals_begin under_r loads_a;
  counting = counting;
  counted = counted;
  with_it = with_it;
  events = events;
  distinct = distinct;
  within = totals_are_within under_r loads_a one_node (Left 3 ∷ []) of_late nothing sound kept.left_sound events distinct (λ i j p h k. absurd (none-some p h)) (omega arith) with_it;
  made = made;
  few_made = omega arith;
  reached = reached;
  all_made = all_made;
  few = (few_nodes_are_within under_r loads_a [] one_child [] 1 late_latch nothing nothing sound kept.left_sound no_entry made (omega arith) (totals_begin under_r loads_a)).0 refl reached all_made;
}
