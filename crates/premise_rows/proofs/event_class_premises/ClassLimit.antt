-- The class map meets the limit at the latch's query.
use Rattle.std.proofs.Common.{◌≡◌, ◌∙◌, ℕ, ◌+◌, ◌<◌, ◌≤◌, List, [], ◌∷◌, ◌++◌, map, slice_get, Option, Some, refl, sym, subst, arith, inl, inr}
use Rattle.std.specs.Prelude.{◌⊎◌, ◌==◌, if◌then◌else◌, codes}
use Rattle.std.specs.List.{All, Contains}
use Rattle.std.proofs.lemmas.List.Elements.{All-cons, All-from_recursion, All-nil, Contains-append_cases}
use Rattle.std.proofs.lemmas.Option.{none-some, same_Some, slice_get_within}
use Rattle.circuit_theory.specs.Circuit.{Circuit, Equation, Gate, Latch, Port as port_equation, Named, IsLatch, IsSingleDriven, Reads}
use Rattle.circuit_theory.specs.EventSizes.{EventVisits, IsOther, Start}
use Rattle.circuit_theory.specs.EventTotals.{StartLatches}
use Rattle.circuit_theory.specs.Frame.{EventSide, ReachedAt}
use Rattle.circuit_theory.specs.Joined.{Either, Left, Right}
use Rattle.circuit_theory.specs.Net.{IsNet}
use Rattle.circuit_theory.specs.Tree.{IsInputNumber}
use Rattle.circuit_theory.proofs.Lists.{All-from_each, Contains-head, Contains-map, Contains-map_from, Contains-tail, only}
use Rattle.circuit_theory.proofs.Numbers.{at_beside}
use Rattle.circuit_laws.proofs.JoinedParts.{joined_single, joined_number_once}
use Rattle.base_tables.specs.Table.{AreDistinct}
use Rattle.base_tables.proofs.Appended.{distinct-push}
use Rattle.sec_base.specs.Cover.{IsPlace, IsCube, IsCoverSound}
use Rattle.flat_net.specs.declared.parts.Driver.{Driver}
use Rattle.flat_net.specs.declared.parts.Driver.TheVariants as driver
use Rattle.flat_net.specs.declared.parts.Port.{Port}
use Rattle.flat_net.specs.declared.signals.Signal.{Signal}
use Rattle.flat_net.specs.Sound.{Drives, IsInputOf, IsGateOf, IsLatchOf, IsSound}
use Rattle.flat_net.specs.View.{circuit_of}
use Rattle.flat_net.proofs.Nets.{sound_is_net}
use Rattle.event_nodes.specs.Adds.{Adds}
use Rattle.event_nodes.specs.View.{Enabled, side_of}
use Rattle.event_nodes.specs.Visited.{AreNodesFrom, HoldsNodes, HoldsVisits, IsVisitedPair}
use Rattle.edbf_unfold.specs.event_literals.event_walk.Walk.{IsCounting, HasCountedStart, enable_start}
use Rattle.event_classes.specs.event_functions.class_totals.Laws.{nothing}
use Rattle.event_classes.specs.event_functions.class_totals.Totals.{HaveCounted}
use Rattle.event_classes.proofs.event_functions.class_totals.Going.{totals_begin, totals_go_on}
use Rattle.event_classes.proofs.event_functions.class_totals.Over.{totals_are_within}
use Rattle.call_rows.proofs.circuit_samples.Each.{each_at, each_latch}
use Rattle.premise_rows.specs.event_class_premises.AtLimit.{many_inputs}
use Rattle.premise_rows.specs.event_class_premises.ClassLimit.{clear_cover, clearing, clears, clears_beside, eighteen, of_clearing, r_latch, ClassLimitIsMet}
use Rattle.premise_rows.specs.event_limit_premises.Chosen.{input_port, letter, numbers_from, seventeen, showing, shows}
use Rattle.premise_rows.proofs.block_premises.TurningNets.{each}
use Rattle.premise_rows.proofs.event_class_premises.AtLimit.{many_kept, off_limit, off_query}
use Rattle.premise_rows.proofs.event_class_premises.ClearedLatch.{function, are_variables, map_begins}
use Rattle.premise_rows.proofs.event_limit_premises.ChosenNets.{showing_sound}
use Rattle.premise_rows.proofs.event_limit_premises.Numbers.{at, is_at, in_eighteen, of_eighteen, letters_distinct}

-- the net
dashes : (count : ℕ) → All IsPlace (map (λ k. 45) (numbers_from 0 count) ++ 49 ∷ [])
dashes count = All-from_each IsPlace _ (λ x h. go x (Contains-append_cases (map (λ k. 45) (numbers_from 0 count)) (49 ∷ []) x h))
  where
    go : (x : ℕ) → Contains (map (λ k. 45) (numbers_from 0 count)) x ⊎ Contains (49 ∷ []) x → IsPlace x
    go x (inl h) = let f = Contains-map_from (λ k. 45) (numbers_from 0 count) x h in inr (inr (sym f.2))
    go x (inr h) = inr (inl (sym (only 49 x h)))

clear_sound : IsCoverSound clear_cover
clear_sound = record { cubes = All-from_recursion (IsCube 18) clear_cover.rows ((refl, All-cons IsPlace 48 (map (λ k. 45) (numbers_from 0 16) ++ 49 ∷ []) (inl refl) (dashes 16)), tt); empty_is_on = λ e. refl }

names_distinct : AreDistinct (map letter seventeen ++ codes "r" ∷ codes "s" ∷ [])
names_distinct = distinct-push (map letter seventeen ++ codes "r" ∷ []) (codes "s") (distinct-push (map letter seventeen) (codes "r") letters_distinct refl) refl

driven : (s : ℕ) (d : Driver) → slice_get clearing.drivers s ≡ Some d → Drives clearing s d
driven s d h = go (below s (slice_get_within clearing.drivers s d h))
  where
    below : (k : ℕ) → k < 19 → (k < 17) ⊎ ((17 ≡ k) ⊎ (18 ≡ k))
    below k l = grind arith

    go : (s < 17) ⊎ ((17 ≡ s) ⊎ (18 ≡ s)) → Drives clearing s d
    go (inl l) = subst (Drives clearing s) (same_Some (driver.Input s) d (sym (at driver.Input (driver.Latch 0 ∷ driver.Gate 0 ∷ []) s l) ∙ h)) (input_port s, at input_port [] s l, refl)
    go (inr (inl e)) = subst (λ k. Drives clearing k d) e (subst (Drives clearing 17) (same_Some (driver.Latch 0) d (subst (λ k. slice_get clearing.drivers k ≡ Some d) (sym e) h)) (_, refl, refl))
    go (inr (inr e)) = subst (λ k. Drives clearing k d) e (subst (Drives clearing 18) (same_Some (driver.Gate 0) d (subst (λ k. slice_get clearing.drivers k ≡ Some d) (sym e) h)) (_, refl, refl))

sound : IsSound clearing
sound = record {
  inputs = λ i port h. let m = is_at input_port i port h in subst (IsInputOf clearing i) m.1 (record { owner = at driver.Input (driver.Latch 0 ∷ driver.Gate 0 ∷ []) i m.0; named = at letter (codes "r" ∷ codes "s" ∷ []) i m.0 });
  gates = each (IsGateOf clearing) clearing.gates (record { owner = refl; above = read_below; cover = clear_cover; covered = refl; width = refl }, tt);
  ordered = λ i j g h less l r. absurd (let one : j < 1 = slice_get_within clearing.gates j h r in omega (arith, less, one));
  latches = each (IsLatchOf clearing) clearing.latches (record { owner = refl; named = refl; within = omega arith }, tt);
  drivers = driven;
  outputs = All-nil (λ (port : Port). port.signal.0 < 19);
  covers = All-from_recursion IsCoverSound (clear_cover ∷ []) (clear_sound, tt);
  named = refl;
  distinct = names_distinct;
  few = omega arith;
  few_inputs = omega arith;
  few_gates = omega arith;
  few_latches = omega arith;
  few_covers = omega arith;
}
  where
    signal : ℕ → Signal
    signal k = record { 0 = k }

    read_below : All (λ (f : Signal). f.0 < 18) (map signal eighteen)
    read_below = All-from_each (λ (f : Signal). f.0 < 18) (map signal eighteen) (λ f h. let k = Contains-map_from signal eighteen f h in subst (λ (g : Signal). g.0 < 18) k.2 (of_eighteen k.0 k.1))

-- side by side
net : IsNet (circuit_of clearing) 19
net = sound_is_net clearing sound

other_net : IsNet (circuit_of showing) 17
other_net = sound_is_net showing showing_sound

single : IsSingleDriven clears_beside.circuit
single = joined_single (circuit_of clearing) (circuit_of showing) 19 17 net other_net

once : (p : Either ℕ ℕ) (i j : ℕ) → IsInputNumber clears_beside.circuit clears_beside.order p i → IsInputNumber clears_beside.circuit clears_beside.order p j → i ≡ j
once p i j h k = joined_number_once (circuit_of clearing) (circuit_of showing) 19 17 net other_net seventeen seventeen refl p i j h k

abbrev left_input : ℕ → Named (Either ℕ ℕ)
left_input k = record { name = letter k; place = Left k }

abbrev right_input : ℕ → Named (Either ℕ ℕ)
right_input k = record { name = letter k; place = Right k }

numbered : (k : ℕ) → k < 17 → IsInputNumber clears_beside.circuit clears_beside.order (Left k) k
numbered k l = at_beside clears_beside.circuit.inputs clears_beside.order k k (left_input k) (at left_input (map right_input seventeen) k l) (at (λ i. i) seventeen k l)

latch : IsLatch clears_beside.circuit (codes "r") (Left 17) (Left 18)
latch = (1, omega arith, refl)

gate : Contains clears_beside.circuit.equations (Gate (Left 18) (map Left seventeen ++ Left 17 ∷ []) clear_cover)
gate = (0, omega arith, refl)

lone : (name : List ℕ) (w to : Either ℕ ℕ) → IsLatch clears_beside.circuit name w to → Left 17 ≡ w
lone name w to is = each_latch (λ m v next. Left 17 ≡ v) clears_beside.circuit.equations (refl, tt) name w to is

-- what its enable visits
abbrev c : Circuit ℕ
c = circuit_of clearing

abbrev s : EventSide ℕ
s = side_of clears

abbrev x : Start ℕ
x = enable_start r_latch

abbrev ReadsSo : ℕ → ℕ → Type 0
ReadsSo p q = (p ≡ 18) × (q < 18)

abbrev ReadsOf : Equation ℕ → Type 0
ReadsOf (Gate out fanins cover) = (q : ℕ) → Contains fanins q → ReadsSo out q
ReadsOf (Latch name out next) = Unit {0}
ReadsOf (port_equation out from) = ⊥

gate_reads : (q : ℕ) → Contains eighteen q → ReadsSo 18 q
gate_reads q m = (refl, of_eighteen q m)

reading : {p q : ℕ} → Reads c p q → ReadsSo p q
reading (Reads.by_gate {out = o} {q = q} {fanins = fanins} {cover = cover} h m) = each_at ReadsOf c.equations (gate_reads, (tt, tt)) (Gate o fanins cover) h q m
reading (Reads.by_port {out = o} {from = from} h) = absurd (each_at ReadsOf c.equations (gate_reads, (tt, tt)) (port_equation o from) h)

latch_is : (name : List ℕ) (u next : ℕ) → IsLatch c name u next → 17 ≡ u
latch_is name u next is = each_latch (λ m v to. 17 ≡ v) c.equations (refl, tt) name u next is

put_itself : {put : Option ℕ} (name : List ℕ) (u next : ℕ) → IsLatch c name u next → put ≡ Some 17 → IsOther put u → ⊥
put_itself name u next is put other = let o = subst (λ (z : Option ℕ). IsOther z u) put other in o (sym (latch_is name u next is))

abbrev IsSeen : Option ℕ → ℕ → List ℕ → Type 0
IsSeen put q node = (put ≡ Some 17) × (node ≡ []) × (q ≤ 18)

seen : {put : Option ℕ} {q : ℕ} {node : List ℕ} → EventVisits s (Enabled clears) (x ∷ []) put q node → IsSeen put q node
seen (EventVisits.start {s = z} h) = subst (λ (y : Start ℕ). IsSeen y.left_out y.place []) (only x z h) (refl, refl, omega arith)
seen (EventVisits.reads {q = q} {r = r} before reads) = let b = seen before in let k = reading reads in (b.0, b.1, omega (arith, k.1))
seen (EventVisits.plain {q = q} {next = next} {name = name} before other is off) = absurd (put_itself name q next is (seen before).0 other)
seen (EventVisits.held {q = q} {next = next} {name = name} before other is on) = absurd (put_itself name q next is (seen before).0 other)

abbrev at_root : ℕ → ℕ × ℕ
at_root k = (0, k)

module _ (starts : List (Start ℕ)) (among : Contains starts x) where
  visits_next : EventVisits s (Enabled clears) starts (Some 17) 18 []
  visits_next = EventVisits.start among

  visits : (k : ℕ) → k < 18 → EventVisits s (Enabled clears) starts (Some 17) k []
  visits k l = EventVisits.reads visits_next (Reads.by_gate {fanins = eighteen} {cover = clear_cover} (0, omega arith, refl) (in_eighteen k l))

  visited_at : (k : ℕ) → k < 18 → IsVisitedPair clears [] starts (0, k)
  visited_at k l = record { node = omega arith; within = (let m : k < 19 = omega (arith, l) in m); out = Some 17; visit = visits k l }

  all_visited : All (IsVisitedPair clears [] starts) of_clearing.places
  all_visited = All-cons (IsVisitedPair clears [] starts) (0, 18) (map at_root eighteen) (record { node = omega arith; within = omega arith; out = Some 17; visit = visits_next })
      (All-from_each (IsVisitedPair clears [] starts) (map at_root eighteen) (λ p h. let k = Contains-map_from at_root eighteen p h in subst (IsVisitedPair clears [] starts) k.2 (visited_at k.0 (of_eighteen k.0 k.1))))

unstarted : (path : List ℕ) (v : ℕ) → ReachedAt s (Enabled clears) (StartLatches s (x ∷ [])) path v → ⊥
unstarted [] v h = put_itself h.2.0 v h.2.1 h.2.2 refl (subst (λ (y : Start ℕ). IsOther y.left_out v) (sym (only x h.0 h.1)) h.3)
unstarted (n ∷ path) v h = unstarted path h.0 h.1

root_alone : HoldsNodes clears [] x
root_alone [] h = (0, omega arith, refl)
root_alone (n ∷ path) h = absurd (unstarted path h.0 h.1)

none_made : Adds (λ (q : ℕ × ℕ). Unit {0}) [] []
none_made = record { more = []; is = refl; each = All-nil (λ (q : ℕ × ℕ). Unit {0}) }

no_node : AreNodesFrom clears [] x 0
no_node i n class l h = absurd (none-some (n, class) h)

counting : IsCounting clears x [] [] nothing of_clearing
counting = record { more = none_made; nodes = no_node; counted = λ starts among all. all_visited starts among }

listed : (q : ℕ) → q ≤ 18 → Contains of_clearing.places (0, q)
listed q l = go (either q l)
  where
    either : (k : ℕ) → k ≤ 18 → (k < 18) ⊎ (18 ≡ k)
    either k m = grind arith

    go : (q < 18) ⊎ (18 ≡ q) → Contains of_clearing.places (0, q)
    go (inl m) = Contains-tail (0, 18) (0, q) (map at_root eighteen) (Contains-map at_root eighteen q (in_eighteen q m))
    go (inr e) = subst (λ n. Contains of_clearing.places (0, n)) e (Contains-head (0, 18) (map at_root eighteen))

holds : HoldsVisits clears [] x of_clearing.places
holds put q path visit = let b = seen visit in record { node = 0; made = omega arith; path_is = sym b.1; listed = listed q b.2 }

counted : HasCountedStart clears x [] nothing of_clearing
counted = record {
  on = record { weighed = record { sum = refl; small = omega arith; few = omega arith }; few = omega arith; more = record { more = of_clearing.places; is = refl; each = λ i d l. tt } };
  holds = holds;
  nodes = root_alone;
}

no_entry : (k n class : ℕ) → slice_get {X = ℕ × ℕ} [] k ≡ Some (n, class) → n ≤ 0
no_entry k n class h = absurd (none-some (n, class) h)

with_it : HaveCounted clears shows [] (Left 17 ∷ []) of_clearing nothing
with_it = (totals_go_on clears shows [] [] [] 0 r_latch nothing nothing of_clearing sound showing_sound no_entry (totals_begin clears shows)).0 refl counting counted

none_distinct : AreDistinct {X = ℕ × ℕ} []
none_distinct i j p h k = absurd (none-some p h)

distinct : AreDistinct of_clearing.places
distinct i j p h k = sym (place i p h) ∙ place j p k
  where
    place : (n : ℕ) (q : ℕ × ℕ) → slice_get of_clearing.places n ≡ Some q → (if q.1 == 18 then 0 else (q.1 + 1)) ≡ n
    place = each (λ n (q : ℕ × ℕ). (if q.1 == 18 then 0 else (q.1 + 1)) ≡ n) of_clearing.places
        (refl, (refl, (refl, (refl, (refl, (refl, (refl, (refl, (refl, (refl, (refl, (refl, (refl, (refl, (refl, (refl, (refl, (refl, (refl, tt)))))))))))))))))))

pub class_limit_is_met : ClassLimitIsMet
class_limit_is_met = record {
  enable = function clears_beside single once (codes "r") (Left 17) (Left 18) Left latch gate numbered lone;
  own = are_variables clears_beside single once (codes "r") (Left 17) (Left 18) Left latch gate numbered lone;
  limit = record {
    names = omega arith;
    other_names = λ t e. absurd (none-some t e);
    next = record {
      left = clears;
      right = shows;
      left_is = refl;
      right_is = refl;
      taken = [];
      rest = [];
      so_far = map_begins clears_beside single once (codes "r") (Left 17) (Left 18) Left latch gate numbered lone;
      latches = omega arith;
      within = totals_are_within clears shows many_inputs [] nothing nothing sound showing_sound many_kept none_distinct none_distinct (omega arith) (totals_begin clears shows);
      classes = omega arith;
    };
    within = totals_are_within clears shows many_inputs (Left 17 ∷ []) of_clearing nothing sound showing_sound many_kept distinct none_distinct (omega arith) with_it;
    query = (
      many_inputs,
      off_query,
      function clears_beside single once (codes "r") (Left 17) (Left 18) Left latch gate numbered lone,
      refl,
      record { events = many_kept; variables = are_variables clears_beside single once (codes "r") (Left 17) (Left 18) Left latch gate numbered lone; limit = off_limit },
    );
  };
}
