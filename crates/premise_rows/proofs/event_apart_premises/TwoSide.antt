-- One circuit with two enabled latches: it keeps what each net keeps, and its output is one latch deep.
use Rattle.std.proofs.Common.{◌≡◌, ◌∙◌, ℕ, suc, ◌+◌, ◌<◌, ◌≤◌, Bool, true, List, [], ◌∷◌, slice_get, Some, refl, sym, arith, inl, inr}
use Rattle.std.specs.Prelude.{codes}
use Rattle.std.proofs.lemmas.List.Elements.{All-from_recursion}
use Rattle.circuit_theory.specs.Circuit.{Circuit, IsLatch, IsSingleDriven, Reads, Reaches}
use Rattle.circuit_theory.specs.Cover.{Cover}
use Rattle.circuit_theory.specs.Depth.{ChainFrom, IsDepth, LatchChain, LatchesHaveDepths}
use Rattle.circuit_theory.specs.Frame.{EventSide}
use Rattle.circuit_theory.specs.Net.{IsNet}
use Rattle.circuit_theory.specs.Run.{IsEnabled}
use Rattle.circuit_theory.specs.Tree.{IsInputNumber}
use Rattle.circuit_theory.proofs.Sums.{same_or_not}
use Rattle.base_tables.specs.Table.{AreDistinct}
use Rattle.base_tables.proofs.Appended.{distinct-push}
use Rattle.sec_base.specs.Cover.{IsCoverSound}
use Rattle.flat_net.specs.declared.parts.Gate.{Gate as NetGate}
use Rattle.flat_net.specs.declared.parts.LatchAt.{LatchAt}
use Rattle.flat_net.specs.declared.parts.Port.{Port}
use Rattle.flat_net.specs.declared.signals.Signal.{Signal}
use Rattle.flat_net.specs.Sound.{Drives, IsInputOf, IsGateOf, IsLatchOf, IsSound}
use Rattle.flat_net.specs.View.{circuit_of}
use Rattle.flat_net.proofs.Nets.{sound_is_net}
use Rattle.event_nodes.specs.View.{EventCircuitView, IsEventCircuit, Enabled, side_of}
use Rattle.call_rows.specs.circuit_samples.event_samples.Samples.{load_cover}
use Rattle.call_rows.proofs.circuit_samples.Each.{each_latch}
use Rattle.call_rows.proofs.circuit_samples.event_samples.HoldCells.{IsHold, depth_one, hold_depths, hold_enabled}
use Rattle.call_rows.proofs.circuit_samples.event_samples.Opened.{holds_load, loads_load}
use Rattle.premise_rows.specs.event_apart_premises.TwoLoads.{loading_two, with_both}
use Rattle.premise_rows.proofs.block_premises.TurningNets.{each, one_name}
use Rattle.premise_rows.proofs.event_pair_premises.HeldPair.{load_sound}

pub input_names : AreDistinct (codes "e" ∷ codes "f" ∷ codes "a" ∷ [])
input_names = distinct-push (codes "e" ∷ codes "f" ∷ []) (codes "a") (distinct-push (codes "e" ∷ []) (codes "f") (one_name (codes "e")) refl) refl

state_names : AreDistinct (codes "e" ∷ codes "f" ∷ codes "a" ∷ codes "q" ∷ codes "r" ∷ [])
state_names = distinct-push (codes "e" ∷ codes "f" ∷ codes "a" ∷ codes "q" ∷ []) (codes "r") (distinct-push (codes "e" ∷ codes "f" ∷ codes "a" ∷ []) (codes "q") input_names refl) refl

names_distinct : AreDistinct (codes "e" ∷ codes "f" ∷ codes "a" ∷ codes "q" ∷ codes "r" ∷ codes "m" ∷ codes "n" ∷ codes "y" ∷ [])
names_distinct =
    distinct-push (codes "e" ∷ codes "f" ∷ codes "a" ∷ codes "q" ∷ codes "r" ∷ codes "m" ∷ codes "n" ∷ []) (codes "y")
    (distinct-push (codes "e" ∷ codes "f" ∷ codes "a" ∷ codes "q" ∷ codes "r" ∷ codes "m" ∷ []) (codes "n") (distinct-push (codes "e" ∷ codes "f" ∷ codes "a" ∷ codes "q" ∷ codes "r" ∷ []) (codes "m") state_names refl) refl) refl

module _ (out : Cover) (out_sound : IsCoverSound out) (out_wide : out.width ≡ 2) where
  abbrev pub e : EventCircuitView
  e = with_both (loading_two out)

  abbrev pub c : Circuit ℕ
  c = circuit_of e.net

  abbrev pub s : EventSide ℕ
  s = side_of e

  ordered : (i j : ℕ) (g h : NetGate) → i < j → slice_get e.net.gates i ≡ Some g → slice_get e.net.gates j ≡ Some h → g.out.0 < h.out.0
  ordered i j g h less l r =
      let first : g.out.0 ≡ 5 + i = each (λ k (x : NetGate). x.out.0 ≡ 5 + k) e.net.gates (refl, (refl, (refl, tt))) i g l in
      let second : h.out.0 ≡ 5 + j = each (λ k (x : NetGate). x.out.0 ≡ 5 + k) e.net.gates (refl, (refl, (refl, tt))) j h r in
      omega (arith, first, second, less)

  pub sound : IsSound e.net
  sound = record {
    inputs = each (IsInputOf e.net) e.net.inputs (record { owner = refl; named = refl }, (record { owner = refl; named = refl }, (record { owner = refl; named = refl }, tt)));
    gates = each (IsGateOf e.net) e.net.gates (
      record { owner = refl; above = All-from_recursion (λ (f : Signal). f.0 < 5) (record { 0 = 0 } ∷ record { 0 = 2 } ∷ record { 0 = 3 } ∷ []) (omega arith, (omega arith, (omega arith, tt))); cover = load_cover; covered = refl; width = refl },
      (
        record { owner = refl; above = All-from_recursion (λ (f : Signal). f.0 < 6) (record { 0 = 1 } ∷ record { 0 = 2 } ∷ record { 0 = 4 } ∷ []) (omega arith, (omega arith, (omega arith, tt))); cover = load_cover; covered = refl; width = refl },
        (record { owner = refl; above = All-from_recursion (λ (f : Signal). f.0 < 7) (record { 0 = 3 } ∷ record { 0 = 4 } ∷ []) (omega arith, (omega arith, tt)); cover = out; covered = refl; width = out_wide }, tt),
      ),
    );
    ordered = ordered;
    latches = each (IsLatchOf e.net) e.net.latches (record { owner = refl; named = refl; within = omega arith }, (record { owner = refl; named = refl; within = omega arith }, tt));
    drivers = each (Drives e.net) e.net.drivers ((_, refl, refl), ((_, refl, refl), ((_, refl, refl), ((_, refl, refl), ((_, refl, refl), ((_, refl, refl), ((_, refl, refl), ((_, refl, refl), tt))))))));
    outputs = All-from_recursion (λ (port : Port). port.signal.0 < 8) e.net.outputs (omega arith, tt);
    covers = All-from_recursion IsCoverSound (load_cover ∷ out ∷ []) (load_sound, (out_sound, tt));
    named = refl;
    distinct = names_distinct;
    few = omega arith;
    few_inputs = omega arith;
    few_gates = omega arith;
    few_latches = omega arith;
    few_covers = omega arith;
  }

  pub is_net : IsNet c 8
  is_net = sound_is_net e.net sound

  single : IsSingleDriven c
  single = is_net.single

  -- each input has its place as its number
  pub own_number : (p i : ℕ) → IsInputNumber c e.order p i → (p ≡ i) × (i < 3)
  own_number p i (inl h) = (sym h.0 ∙ h.1, omega (arith, h.1))
  own_number p i (inr (inl h)) = (sym h.0 ∙ h.1, omega (arith, h.1))
  own_number p i (inr (inr (inl h))) = (sym h.0 ∙ h.1, omega (arith, h.1))
  own_number p i (inr (inr (inr h))) = absurd h

  once : (p i j : ℕ) → IsInputNumber c e.order p i → IsInputNumber c e.order p j → i ≡ j
  once p i j h k = sym (own_number p i h).0 ∙ (own_number p j k).0

  abbrev q_hold : IsHold s 3 5
  q_hold = record { e = 0; a = 2; i = 0; j = 2; load = load_cover; gate = (0, omega arith, refl); e_is = inl (refl, refl); a_is = inr (inr (inl (refl, refl))); holds = holds_load; loads = loads_load }

  abbrev r_hold : IsHold s 4 6
  r_hold = record { e = 1; a = 2; i = 1; j = 2; load = load_cover; gate = (1, omega arith, refl); e_is = inr (inl (refl, refl)); a_is = inr (inr (inl (refl, refl))); holds = holds_load; loads = loads_load }

  q_latch : IsLatch c (codes "q") 3 5
  q_latch = (3, omega arith, refl)

  r_latch : IsLatch c (codes "r") 4 6
  r_latch = (4, omega arith, refl)

  abbrev all_hold : (name : List ℕ) (u next : ℕ) → IsLatch c name u next → IsHold s u next
  all_hold name u next is = each_latch (λ m v to. IsHold s v to) c.equations (q_hold, (r_hold, tt)) name u next is

  pub depths : LatchesHaveDepths c (Enabled e)
  depths = hold_depths s same_or_not single once all_hold

  q_enabled : Enabled e 3
  q_enabled = hold_enabled s same_or_not single once (codes "q") 3 5 q_latch q_hold

  r_enabled : Enabled e 4
  r_enabled = hold_enabled s same_or_not single once (codes "r") 4 6 r_latch r_hold

  pub is_circuit : IsEventCircuit e
  is_circuit = record {
    marks = record {
      each = refl;
      exactly = λ j l bit h k. (
        λ on. each (λ i (x : LatchAt). IsEnabled c x.out.0) e.net.latches (q_enabled, (r_enabled, tt)) j l h,
        λ on. each (λ i (b : Bool). b ≡ true) (true ∷ true ∷ []) (refl, (refl, tt)) j bit k,
      );
    };
    each_order = refl;
    order_once = λ i j x h k. sym (place i x h) ∙ place j x k;
    each_class = refl;
  }
    where
      place : (i x : ℕ) → slice_get (0 ∷ 1 ∷ 2 ∷ []) i ≡ Some x → x ≡ i
      place = each (λ i x. x ≡ i) (0 ∷ 1 ∷ 2 ∷ []) (refl, (refl, (refl, tt)))

  -- y is one latch deep
  pub y_depth : IsDepth c (Enabled e) 7 1
  y_depth = record { reached = inr (3, (inr (codes "q", 5, q_latch), reaches), LatchChain.last q_latch); greatest = greatest }
    where
      reaches : Reaches c 7 3
      reaches = Reaches.there (Reads.by_gate {fanins = 3 ∷ 4 ∷ []} (2, omega arith, refl) (0, omega arith, refl)) Reaches.here

      from : (n : ℕ) (u : ℕ) (name : List ℕ) (next : ℕ) → IsLatch c name u next → LatchChain c (Enabled e) u n → n ≤ 1
      from n u name next is chain = (depth_one s same_or_not single once all_hold name u next is).greatest n (inr (u, (inr (name, next, is), Reaches.here), chain))

      chain_is : (n u : ℕ) → LatchChain c (Enabled e) u n → n ≤ 1
      chain_is n u (LatchChain.last {next = next} {name = name} is) = from 1 u name next is (LatchChain.last is)
      chain_is n u (LatchChain.more {n = m} r rest) = from (suc m) u r.name r.next r.latch (LatchChain.more r rest)

      greatest : (n : ℕ) → ChainFrom c (Enabled e) 7 n → n ≤ 1
      greatest n (inl h) = omega (arith, h)
      greatest n (inr h) = chain_is n h.0 h.2
