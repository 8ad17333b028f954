-- The circuit whose latch loads e under a keeps what each net keeps; beside A's circuit its latches are enabled, and have their order.
use Rattle.std.proofs.Common.{◌≡◌, ◌≢◌, ◌∙◌, ℕ, suc, ◌+◌, ◌<◌, Bool, true, List, [], ◌∷◌, slice_get, Some, refl, sym, subst, arith, inl, inr}
use Rattle.std.specs.Prelude.{codes}
use Rattle.std.specs.List.{AllPairs, Contains}
use Rattle.std.proofs.lemmas.List.Elements.{All-from_recursion}
use Rattle.circuit_theory.specs.Circuit.{Circuit, IsLatch, IsSingleDriven}
use Rattle.circuit_theory.specs.Depth.{LatchesHaveDepths}
use Rattle.circuit_theory.specs.Joined.{Either, Left, Right, joined}
use Rattle.circuit_theory.specs.Net.{IsNet}
use Rattle.circuit_theory.specs.Run.{IsEnabled}
use Rattle.circuit_theory.specs.Tree.{IsInputNumber}
use Rattle.circuit_theory.specs.Classes.{IsLatchOrder}
use Rattle.circuit_theory.proofs.Sums.{same_or_not}
use Rattle.circuit_laws.proofs.JoinedParts.{joined_same, joined_single, joined_number_once}
use Rattle.flat_net.specs.declared.parts.Gate.{Gate as NetGate}
use Rattle.flat_net.specs.declared.parts.LatchAt.{LatchAt as NetLatch}
use Rattle.flat_net.specs.declared.signals.Signal.{Signal}
use Rattle.flat_net.specs.Sound.{Drives, IsInputOf, IsGateOf, IsLatchOf, IsSound}
use Rattle.flat_net.specs.View.{circuit_of}
use Rattle.flat_net.proofs.Nets.{sound_is_net}
use Rattle.event_nodes.specs.View.{IsEventCircuit, Enabled, side_of}
use Rattle.call_rows.specs.circuit_samples.event_samples.Samples.{load_cover, same_cover}
use Rattle.call_rows.proofs.circuit_samples.Each.{each_at, each_latch, each_pair}
use Rattle.call_rows.proofs.circuit_samples.event_samples.HoldCells.{IsHold, hold_enabled, hold_depths, in_their_order}
use Rattle.call_rows.proofs.circuit_samples.event_samples.Opened.{holds_load, loads_load}
use Rattle.premise_rows.specs.event_class_premises.TwoEnables.{loading_e, e_of, two_of}
use Rattle.premise_rows.proofs.block_premises.TurningNets.{each}
use Rattle.premise_rows.proofs.event_pair_premises.HeldPair.{kept, left_net, left_circuit}

ordered : (i j : ℕ) (g h : NetGate) → i < j → slice_get loading_e.gates i ≡ Some g → slice_get loading_e.gates j ≡ Some h → g.out.0 < h.out.0
ordered i j g h less l r =
    let first : g.out.0 ≡ 3 + i = each (λ k (x : NetGate). x.out.0 ≡ 3 + k) loading_e.gates (refl, (refl, tt)) i g l in
    let second : h.out.0 ≡ 3 + j = each (λ k (x : NetGate). x.out.0 ≡ 3 + k) loading_e.gates (refl, (refl, tt)) j h r in
    omega (arith, first, second, less)

pub e_sound : IsSound loading_e
e_sound = record {
  inputs = each (IsInputOf loading_e) loading_e.inputs (record { owner = refl; named = refl }, (record { owner = refl; named = refl }, tt));
  gates = each (IsGateOf loading_e) loading_e.gates (
    record { owner = refl; above = All-from_recursion (λ (f : Signal). f.0 < 3) (record { 0 = 1 } ∷ record { 0 = 0 } ∷ record { 0 = 2 } ∷ []) (omega arith, (omega arith, (omega arith, tt))); cover = load_cover; covered = refl; width = refl },
    (record { owner = refl; above = All-from_recursion (λ (f : Signal). f.0 < 4) (record { 0 = 2 } ∷ []) (omega arith, tt); cover = same_cover; covered = refl; width = refl }, tt),
  );
  ordered = ordered;
  latches = each (IsLatchOf loading_e) loading_e.latches (record { owner = refl; named = refl; within = omega arith }, tt);
  drivers = each (Drives loading_e) loading_e.drivers ((_, refl, refl), ((_, refl, refl), ((_, refl, refl), ((_, refl, refl), ((_, refl, refl), tt)))));
  outputs = kept.left_sound.outputs;
  covers = kept.left_sound.covers;
  named = refl;
  distinct = kept.left_sound.distinct;
  few = omega arith;
  few_inputs = omega arith;
  few_gates = omega arith;
  few_latches = omega arith;
  few_covers = omega arith;
}

abbrev pub e_circuit : Circuit ℕ
e_circuit = circuit_of loading_e

pub e_net : IsNet e_circuit 5
e_net = sound_is_net loading_e e_sound

own_number : (p i : ℕ) → IsInputNumber e_circuit (0 ∷ 1 ∷ []) p i → p ≡ i
own_number p i (inl h) = sym h.0 ∙ h.1
own_number p i (inr (inl h)) = sym h.0 ∙ h.1
own_number p i (inr (inr h)) = absurd h

pub once : (p i j : ℕ) → IsInputNumber e_circuit (0 ∷ 1 ∷ []) p i → IsInputNumber e_circuit (0 ∷ 1 ∷ []) p j → i ≡ j
once p i j h k = sym (own_number p i h) ∙ own_number p j k

module _ (k : ℕ) where
  abbrev own_hold : IsHold (side_of (e_of k)) 2 3
  own_hold = record { e = 1; a = 0; i = 1; j = 0; load = load_cover; gate = (0, omega arith, refl); e_is = inr (inl (refl, refl)); a_is = inl (refl, refl); holds = holds_load; loads = loads_load }

  enabled : Enabled (e_of k) 2
  enabled = hold_enabled (side_of (e_of k)) same_or_not e_net.single once (codes "q") 2 3 (2, omega arith, refl) own_hold

  pub is_circuit : IsEventCircuit (e_of k)
  is_circuit = record {
    marks = record {
      each = refl;
      exactly = λ j l bit h m. (
        λ on. subst (λ (z : ℕ). IsEnabled e_circuit z) (each (λ i (x : NetLatch). 2 ≡ x.out.0) loading_e.latches (refl, tt) j l h) enabled,
        λ on. each (λ i (b : Bool). b ≡ true) (true ∷ []) (refl, tt) j bit m,
      );
    };
    each_order = refl;
    order_once = kept.left.order_once;
    each_class = refl;
  }

abbrev pub two_whole : Circuit (Either ℕ ℕ)
two_whole = joined left_circuit e_circuit

pub two_single : IsSingleDriven two_whole
two_single = joined_single left_circuit e_circuit 5 5 left_net e_net

pub two_once : (p : Either ℕ ℕ) (i j : ℕ) → IsInputNumber two_whole (two_of 1 2).order p i → IsInputNumber two_whole (two_of 1 2).order p j → i ≡ j
two_once p i j h k = joined_number_once left_circuit e_circuit 5 5 left_net e_net (0 ∷ 1 ∷ []) (0 ∷ 1 ∷ []) refl p i j h k

pub two_left : IsLatch two_whole (codes "q") (Left 2) (Left 3)
two_left = (2, omega arith, refl)

pub two_right : IsLatch two_whole (codes "q") (Right 2) (Right 3)
two_right = (5, omega arith, refl)

-- whatever classes they have
module _ (j k : ℕ) where
  abbrev pub left_hold : IsHold (two_of j k) (Left 2) (Left 3)
  left_hold = record { e = Left 0; a = Left 1; i = 0; j = 1; load = load_cover; gate = (0, omega arith, refl); e_is = inl (refl, refl); a_is = inr (inl (refl, refl)); holds = holds_load; loads = loads_load }

  abbrev pub right_hold : IsHold (two_of j k) (Right 2) (Right 3)
  right_hold = record { e = Right 1; a = Right 0; i = 1; j = 0; load = load_cover; gate = (3, omega arith, refl); e_is = inr (inr (inr (inl (refl, refl)))); a_is = inr (inr (inl (refl, refl))); holds = holds_load; loads = loads_load }

  pub two_hold : (name : List ℕ) (u next : Either ℕ ℕ) → IsLatch two_whole name u next → IsHold (two_of j k) u next
  two_hold name u next latch = each_latch (λ m v to. IsHold (two_of j k) v to) two_whole.equations (left_hold, (right_hold, tt)) name u next latch

pub two_depths : LatchesHaveDepths two_whole (IsEnabled two_whole)
two_depths = hold_depths (two_of 1 2) joined_same two_single two_once (two_hold 1 2)

-- class 1 is that of the enable e, which has the number 0, and class 2 that of a
abbrev HoldOfClass : List ℕ → Either ℕ ℕ → Either ℕ ℕ → Type 0
HoldOfClass name u next = (h : IsHold (two_of 1 2) u next) × ((two_of 1 2).class u ≡ suc h.i)

each_hold : (name : List ℕ) (u next : Either ℕ ℕ) → IsLatch two_whole name u next → HoldOfClass name u next
each_hold name u next latch = each_latch HoldOfClass two_whole.equations ((left_hold 1 2, refl), ((right_hold 1 2, refl), tt)) name u next latch

order_hold : (name : List ℕ) (u next : Either ℕ ℕ) → IsLatch two_whole name u next → IsHold (two_of 1 2) u next
order_hold name u next latch = (each_hold name u next latch).0

class_is : (name : List ℕ) (u next : Either ℕ ℕ) (latch : IsLatch two_whole name u next) → (two_of 1 2).class u ≡ suc (order_hold name u next latch).i
unfolding order_hold
class_is name u next latch = (each_hold name u next latch).1

abbrev LatchAt : Either ℕ ℕ → Type 0
LatchAt u = (name : List ℕ) × (next : Either ℕ ℕ) × IsLatch two_whole name u next

abbrev latches : List (Either ℕ ℕ)
latches = Left 2 ∷ Right 2 ∷ []

in_order : IsLatchOrder (two_of 1 2) latches
in_order = in_their_order (two_of 1 2) joined_same two_single two_once order_hold class_is apart (λ u h. each_at LatchAt latches ((codes "q", Left 3, two_left), ((codes "q", Right 3, two_right), tt)) u h)
    (λ name u next latch. each_latch (λ m v to. Contains latches v) two_whole.equations ((0, omega arith, refl), ((1, omega arith, refl), tt)) name u next latch)
  where
    apart : AllPairs (λ u v. u ≢ v) latches
    apart = each_pair (λ u v. u ≢ v) latches (((λ e. cc), tt), (tt, tt))

pub two_order : (j k : ℕ) → IsLatchOrder (two_of j k) (Left 2 ∷ Right 2 ∷ [])
two_order j k = record { all = in_order.all; enabled = in_order.enabled; in_order = in_order.in_order }
