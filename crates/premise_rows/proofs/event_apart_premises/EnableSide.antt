-- What the enable of the latch visits in either circuit: all at the root, and no other latch.
use Rattle.std.proofs.Common.{◌≡◌, ℕ, zero, suc, ◌≤◌, List, [], ◌∷◌, Option, Some, refl, sym, subst, arith, inl, inr}
use Rattle.std.specs.List.{Contains}
use Rattle.std.proofs.lemmas.List.Elements.{All-from_recursion}
use Rattle.circuit_theory.specs.Circuit.{IsLatch, Reads}
use Rattle.circuit_theory.specs.Cover.{Cover}
use Rattle.circuit_theory.specs.EventSizes.{EventVisits, IsOther, Start}
use Rattle.circuit_theory.specs.EventTotals.{StartLatches}
use Rattle.circuit_theory.specs.Frame.{ReachedAt}
use Rattle.circuit_theory.proofs.Lists.{Contains-head, only}
use Rattle.flat_net.specs.View.{circuit_of}
use Rattle.event_nodes.specs.View.{EventCircuitView, Enabled, side_of}
use Rattle.event_nodes.specs.Visited.{HasCounted, HoldsNodes, HoldsVisits, IsVisitedPair, IsWeighed, places_weight}
use Rattle.premise_rows.specs.event_apart_premises.Enables.{enable_start, enable_count}
use Rattle.premise_rows.specs.event_pair_premises.Held.{holding, with_class}
use Rattle.premise_rows.proofs.event_pair_premises.HeldSide.{ReadsSo}

module _ (load out : Cover) (reading : (p q : ℕ) → Reads (circuit_of (holding load out)) p q → ReadsSo p q) (latch_is : (name : List ℕ) (u next : ℕ) → IsLatch (circuit_of (holding load out)) name u next → (2 ≡ u) × (3 ≡ next))
    (weighs : places_weight (holding load out) enable_count.places ≡ 12) where
  abbrev e : EventCircuitView
  e = with_class (holding load out)

  abbrev Visits : Option ℕ → ℕ → List ℕ → Type 0
  Visits put q node = EventVisits (side_of e) (Enabled e) (enable_start ∷ []) put q node

  -- the latch isn't followed
  left_out : (put : Option ℕ) (q : ℕ) → put ≡ Some 2 → IsOther put q → 2 ≡ q → ⊥
  left_out put q h other same = subst (λ (z : Option ℕ). IsOther z q) h other (sym same)

  visited : {put : Option ℕ} {q : ℕ} {node : List ℕ} → Visits put q node → (put ≡ Some 2) × (q ≤ 3) × (node ≡ [])
  visited (EventVisits.start {s = z} h) = let at = subst (λ (y : Start ℕ). (y.left_out ≡ Some 2) × (y.place ≤ 3)) (only enable_start z h) (refl, omega arith) in (at.0, at.1, refl)
  visited (EventVisits.reads {q = q} {r = r} seen reads) = let v = visited seen in (v.0, below (reading q r reads), v.2)
    where
      below : ReadsSo q r → r ≤ 3
      below (inl h) = omega (arith, h.1)
      below (inr h) = omega (arith, h.1)
  visited (EventVisits.plain {out = put} {q = q} {next = next} {name = name} seen other is off) = absurd (left_out put q (visited seen).0 other (latch_is name q next is).0)
  visited (EventVisits.held {out = put} {q = q} {next = next} {name = name} seen other is on) = absurd (left_out put q (visited seen).0 other (latch_is name q next is).0)

  abbrev IsListed : ℕ → Type 0
  IsListed r = let p : ℕ × ℕ = (0, r) in Contains enable_count.places p

  listed : (q : ℕ) → q ≤ 3 → IsListed q
  listed zero l = (1, omega arith, refl)
  listed (suc zero) l = (2, omega arith, refl)
  listed (suc (suc zero)) l = (3, omega arith, refl)
  listed (suc (suc (suc zero))) l = (0, omega arith, refl)
  listed (suc (suc (suc (suc q)))) l = absurd (omega (arith, l))

  holds_visits : HoldsVisits e [] enable_start enable_count.places
  holds_visits put q path seen = let v = visited seen in record { node = 0; made = omega arith; path_is = sym v.2; listed = listed q v.1 }

  visits_next : Visits (Some 2) 3 []
  visits_next = EventVisits.start (Contains-head enable_start [])

  visits_read : (r : ℕ) → Contains (0 ∷ 1 ∷ 2 ∷ []) r → Visits (Some 2) r []
  visits_read r h = EventVisits.reads visits_next (Reads.by_gate {fanins = 0 ∷ 1 ∷ 2 ∷ []} (0, omega arith, refl) h)

  pub weighed : IsWeighed e.net enable_count
  weighed = record { sum = weighs; small = omega arith; few = omega arith }

  pub has_counted : HasCounted e [] (enable_start ∷ []) enable_count
  has_counted = record {
    weighed = weighed;
    only = All-from_recursion (IsVisitedPair e [] (enable_start ∷ [])) enable_count.places (
      record { node = omega arith; within = omega arith; out = Some 2; visit = visits_next },
      (
        record { node = omega arith; within = omega arith; out = Some 2; visit = visits_read 0 (0, omega arith, refl) },
        (
          record { node = omega arith; within = omega arith; out = Some 2; visit = visits_read 1 (1, omega arith, refl) },
          (record { node = omega arith; within = omega arith; out = Some 2; visit = visits_read 2 (2, omega arith, refl) }, tt),
        ),
      ),
    );
    all = λ x h. subst (λ (z : Start ℕ). HoldsVisits e [] z enable_count.places) (only enable_start x h) holds_visits;
  }

  -- no latch begins, so that the root is the one event node
  none : (path : List ℕ) (v : ℕ) → ReachedAt (side_of e) (Enabled e) (StartLatches (side_of e) (enable_start ∷ [])) path v → ⊥
  none [] v h = subst (λ (z : Start ℕ). IsOther z.left_out v) (sym (only enable_start h.0 h.1)) h.3 (sym (latch_is h.2.0 v h.2.1 h.2.2).0)
  none (k ∷ path) v h = none path h.0 h.1

  holds_nodes : HoldsNodes e [] enable_start
  holds_nodes [] h = (0, omega arith, refl)
  holds_nodes (k ∷ path) h = absurd (none path h.0 h.1)

  pub nodes_made : (x : Start ℕ) → Contains (enable_start ∷ []) x → HoldsNodes e [] x
  nodes_made x h = subst (HoldsNodes e []) (only enable_start x h) holds_nodes
