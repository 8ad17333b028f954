-- What the enable of a latch visits that loads under an input: at the root what the latch takes over, both inputs and the latch itself.
use Rattle.std.proofs.Common.{◌≡◌, ℕ, zero, suc, ◌≤◌, List, [], ◌∷◌, Option, Some, refl, sym, subst, arith, inl, inr}
use Rattle.std.specs.Prelude.{◌⊎◌}
use Rattle.std.specs.List.{All, Contains}
use Rattle.std.proofs.lemmas.List.Elements.{All-from_recursion, All-nil}
use Rattle.std.proofs.lemmas.Option.{none-some}
use Rattle.circuit_theory.specs.Circuit.{Circuit, Equation, Gate, Latch, Port, IsLatch, Reads}
use Rattle.circuit_theory.specs.Cover.{Cover}
use Rattle.circuit_theory.specs.EventSizes.{EventVisits, IsOther, Start}
use Rattle.circuit_theory.specs.EventTotals.{StartLatches}
use Rattle.circuit_theory.specs.Frame.{EventSide, ReachedAt}
use Rattle.circuit_theory.proofs.Lists.{only}
use Rattle.flat_net.specs.View.{circuit_of}
use Rattle.event_nodes.specs.Adds.{Adds}
use Rattle.event_nodes.specs.Reach.{IsBegun}
use Rattle.event_nodes.specs.View.{EventCircuitView, Enabled, side_of}
use Rattle.event_nodes.specs.Visited.{AreNodesFrom, HoldsNodes, HoldsVisits, IsVisitedPair, places_weight}
use Rattle.edbf_unfold.specs.event_literals.event_walk.Walk.{IsCounting, HasCountedStart, enable_start}
use Rattle.event_classes.specs.event_functions.class_totals.Laws.{nothing}
use Rattle.call_rows.proofs.circuit_samples.Each.{each_at, each_latch}
use Rattle.premise_rows.specs.event_pair_premises.Held.{holding, with_class}
use Rattle.premise_rows.specs.event_class_premises.Totals.{q_latch, of_enable}

-- what reads what
abbrev ReadsSo : ℕ → ℕ → Type 0
ReadsSo p q = (p ≡ 4) ⊎ (q ≤ 2)

abbrev ReadsOf : Equation ℕ → Type 0
ReadsOf (Gate out fanins cover) = (q : ℕ) → Contains fanins q → ReadsSo out q
ReadsOf (Latch name out next) = Unit {0}
ReadsOf (Port out from) = ⊥

abbrev pub x : Start ℕ
x = enable_start q_latch

-- a place that is visited
abbrev pub IsSeen : Option ℕ → ℕ → List ℕ → Type 0
IsSeen put q node = (put ≡ Some 2) × (node ≡ []) × (q ≤ 3)

module _ (load out : Cover) (k : ℕ) where
  abbrev pub e : EventCircuitView
  e = record (with_class (holding load out)) { classes = k ∷ [] }

  abbrev c : Circuit ℕ
  c = circuit_of e.net

  abbrev s : EventSide ℕ
  s = side_of e

  first : (q : ℕ) → Contains (0 ∷ 1 ∷ 2 ∷ []) q → ReadsSo 3 q
  first q m = inr (each_at (λ (z : ℕ). z ≤ 2) (0 ∷ 1 ∷ 2 ∷ []) (omega arith, (omega arith, (omega arith, tt))) q m)

  reading : {p q : ℕ} → Reads c p q → ReadsSo p q
  reading (Reads.by_gate {out = o} {q = q} {fanins = fanins} {cover = cover} h m) = each_at ReadsOf c.equations (first, (λ r n. inl refl, (tt, tt))) (Gate o fanins cover) h q m
  reading (Reads.by_port {out = o} {from = from} h) = absurd (each_at ReadsOf c.equations (first, (λ r n. inl refl, (tt, tt))) (Port o from) h)

  latch_is : (name : List ℕ) (u next : ℕ) → IsLatch c name u next → 2 ≡ u
  latch_is name u next is = each_latch (λ m v to. 2 ≡ v) c.equations (refl, tt) name u next is

  onward : (q r : ℕ) → q ≤ 3 → ReadsSo q r → r ≤ 3
  onward q r l (inl h) = absurd (omega (arith, h, l))
  onward q r l (inr h) = omega (arith, h)

  -- the latch itself is read as a constant
  put_itself : {put : Option ℕ} (name : List ℕ) (u next : ℕ) → IsLatch c name u next → put ≡ Some 2 → IsOther put u → ⊥
  put_itself name u next is put other = let o = subst (λ (z : Option ℕ). IsOther z u) put other in o (sym (latch_is name u next is))

  pub seen : {put : Option ℕ} {q : ℕ} {node : List ℕ} → EventVisits s (Enabled e) (x ∷ []) put q node → IsSeen put q node
  seen (EventVisits.start {s = z} h) = subst (λ (y : Start ℕ). IsSeen y.left_out y.place []) (only x z h) (refl, refl, omega arith)
  seen (EventVisits.reads {q = q} {r = r} before reads) = let b = seen before in (b.0, b.1, onward q r b.2 (reading reads))
  seen (EventVisits.plain {q = q} {next = next} {name = name} before other is off) = absurd (put_itself name q next is (seen before).0 other)
  seen (EventVisits.held {q = q} {next = next} {name = name} before other is on) = absurd (put_itself name q next is (seen before).0 other)

  -- whatever else is unfolded
  module _ (starts : List (Start ℕ)) (among : Contains starts x) where
    abbrev Visits : ℕ → Type 0
    Visits q = EventVisits s (Enabled e) starts (Some 2) q []

    visits_next : Visits 3
    visits_next = EventVisits.start among

    pub visits_e : Visits 0
    visits_e = EventVisits.reads visits_next (Reads.by_gate {fanins = 0 ∷ 1 ∷ 2 ∷ []} (0, omega arith, refl) (0, omega arith, refl))

    pub visits_a : Visits 1
    visits_a = EventVisits.reads visits_next (Reads.by_gate {fanins = 0 ∷ 1 ∷ 2 ∷ []} (0, omega arith, refl) (1, omega arith, refl))

    visits_q : Visits 2
    visits_q = EventVisits.reads visits_next (Reads.by_gate {fanins = 0 ∷ 1 ∷ 2 ∷ []} (0, omega arith, refl) (2, omega arith, refl))

    all_visited : All (IsVisitedPair e [] starts) of_enable.places
    all_visited = All-from_recursion (IsVisitedPair e [] starts) of_enable.places (
      record { node = omega arith; within = omega arith; out = Some 2; visit = visits_next },
      (record { node = omega arith; within = omega arith; out = Some 2; visit = visits_e }, (record { node = omega arith; within = omega arith; out = Some 2; visit = visits_a }, (record { node = omega arith; within = omega arith; out = Some 2; visit = visits_q }, tt))),
    )

  -- no latch is reached
  module _ (Begun : ℕ → Type 0) (none : (v : ℕ) → Begun v → ⊥) where
    unreached_from : (path : List ℕ) (v : ℕ) → ReachedAt s (Enabled e) Begun path v → ⊥
    unreached_from [] v h = none v h
    unreached_from (n ∷ path) v h = unreached_from path h.0 h.1

  pub unreached : (path : List ℕ) (v : ℕ) → ReachedAt s (Enabled e) (IsBegun c x) path v → ⊥
  unreached = unreached_from (IsBegun c x) (λ v h. put_itself h.0.0 v h.0.1 h.0.2 refl h.1)

  unstarted : (path : List ℕ) (v : ℕ) → ReachedAt s (Enabled e) (StartLatches s (x ∷ [])) path v → ⊥
  unstarted = unreached_from (StartLatches s (x ∷ [])) (λ v h. put_itself h.2.0 v h.2.1 h.2.2 refl (subst (λ (y : Start ℕ). IsOther y.left_out v) (sym (only x h.0 h.1)) h.3))

  pub none_made : Adds (λ (q : ℕ × ℕ). Unit {0}) [] []
  none_made = record { more = []; is = refl; each = All-nil (λ (q : ℕ × ℕ). Unit {0}) }

  pub no_node : AreNodesFrom e [] x 0
  no_node i n class l h = absurd (none-some (n, class) h)

  pub root_alone : HoldsNodes e [] x
  root_alone [] h = (0, omega arith, refl)
  root_alone (n ∷ path) h = absurd (unstarted path h.0 h.1)

  pub counting : IsCounting e x [] [] nothing of_enable
  counting = record { more = none_made; nodes = no_node; counted = λ starts among all. all_visited starts among }

  listed : (q : ℕ) → q ≤ 3 → Contains of_enable.places (0, q)
  listed zero l = (1, omega arith, refl)
  listed (suc zero) l = (2, omega arith, refl)
  listed (suc (suc zero)) l = (3, omega arith, refl)
  listed (suc (suc (suc zero))) l = (0, omega arith, refl)
  listed (suc (suc (suc (suc q)))) l = absurd (omega (arith, l))

  holds : HoldsVisits e [] x of_enable.places
  holds put q path visit = let b = seen visit in record { node = 0; made = omega arith; path_is = sym b.1; listed = listed q b.2 }

  pub counted : places_weight e.net of_enable.places ≡ 12 → HasCountedStart e x [] nothing of_enable
  counted sum = record {
    on = record { weighed = record { sum = sum; small = omega arith; few = omega arith }; few = omega arith; more = record { more = of_enable.places; is = refl; each = λ i d l. tt } };
    holds = holds;
    nodes = root_alone;
  }
