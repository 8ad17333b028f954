-- The numbers of the variables that stand for places: a place has one, and in one cycle two places don't share one.
use Rattle.std.proofs.Common.{◌≡◌, ◌≢◌, ◌∙◌, ◌+◌, ◌<◌, ℕ, Bool, List, map, Option, Some, None, IfNone, slice_get, refl, sym, ap, subst, arith, inl, inr}
use Rattle.std.specs.Prelude.{IfSome}
use Rattle.std.specs.List.{All, AllPairs, Contains}
use Rattle.std.proofs.lemmas.List.Elements.{All-contains}
use Rattle.circuit_theory.specs.Circuit.{Circuit}
use Rattle.circuit_theory.specs.Cone.{latches_of}
use Rattle.circuit_theory.specs.Net.{IsNet}
use Rattle.circuit_theory.specs.Tree.{IsInputNumber}
use Rattle.circuit_theory.proofs.Inputs.{beside_is_input}
use Rattle.circuit_theory.proofs.Lists.{of_at}
use Rattle.circuit_theory.proofs.Numbers.{beside_at, at_beside, distinct_at, one_number, one_place, slice_get-map}
use Rattle.base_tables.specs.Table.{AreDistinct}
use Rattle.flat_net.specs.declared.parts.LatchAt.{LatchAt}
use Rattle.flat_net.specs.declared.parts.Driver.TheVariants as driver
use Rattle.flat_net.specs.View.{NetView, circuit_of, named, start_of}
use Rattle.flat_net.specs.Sound.{IsSound}
use Rattle.flat_net.proofs.Places.{one_at}
use Rattle.circuit_laws.specs.reset_laws.Reset.{IsFree}
use Rattle.circuit_laws.proofs.reset_laws.ResetAgreement.{latch_from}
use Rattle.circuit_laws.proofs.reset_laws.reset_nets.Starts.{nets_have_starts}
use Rattle.flat_net.proofs.Drivers.{input_owner, latch_of_equation, latch_out, no_input_gate, no_input_latch}
use Rattle.cbf_unfold.proofs.unfold_places.Over.{pairs_differ}
use Rattle.reset_form.specs.reset_unfold.Places.{IsFreeAt, IsLeafAt}

some_is : {X : Type 0} {x y : X} → Some x ≡ Some y → x ≡ y
some_is q = cc

no_gate_latch : {i j : ℕ} → driver.Gate i ≡ driver.Latch j → ⊥
no_gate_latch e = cc

module _ (c : Circuit ℕ) (size : ℕ) (net : IsNet c size) (distinct : AllPairs (λ u v. u ≢ v) (latches_of c)) (order : List ℕ) (base : ℕ) where
  -- an input is no latch
  input_no_latch : (u x j : ℕ) → IsInputNumber c order u x → slice_get (latches_of c) j ≡ Some u → ⊥
  input_no_latch u x j l at = let k = latch_from c.equations j u at in net.single.no_input _ k.2 (beside_is_input c.inputs order u x l)

  pub one_leaf : (p : ℕ × ℕ) (x y : ℕ) → IsLeafAt c order base p x → IsLeafAt c order base p y → x ≡ y
  one_leaf p x y (inl l) (inl r) = one_number c.inputs order net.inputs p.1 x y l r
  one_leaf p x y (inl l) (inr r) = absurd (input_no_latch p.1 x r.1 l r.2)
  one_leaf p x y (inr l) (inl r) = absurd (input_no_latch p.1 y l.1 r l.2)
  one_leaf p x y (inr l) (inr r) =
      let j : l.1 ≡ r.1 = distinct_at (λ (u : ℕ). u) (latches_of c) distinct l.1 r.1 p.1 p.1 l.2 r.2 refl in
      sym l.4 ∙ (ap (λ k. base + k) j ∙ r.4)

  module _ (below : All (λ i. i < base) order) (numbers : AreDistinct order) where
    number_below : (u x : ℕ) → IsInputNumber c order u x → x < base
    number_below u x h = let b = beside_at c.inputs order u x h in All-contains (λ i. i < base) order x below (of_at order b.0 x b.4)

    pub one_signal : (p q : ℕ × ℕ) (x : ℕ) → IsLeafAt c order base p x → IsLeafAt c order base q x → p.1 ≡ q.1
    one_signal p q x (inl l) (inl r) = one_place c.inputs order (pairs_differ order numbers) p.1 q.1 x l r
    one_signal p q x (inl l) (inr r) = absurd (let k = number_below p.1 x l in omega (arith, k, r.4))
    one_signal p q x (inr l) (inl r) = absurd (let k = number_below q.1 x r in omega (arith, k, l.4))
    one_signal p q x (inr l) (inr r) = let j : l.1 ≡ r.1 = omega (arith, l.4, r.4) in some_is (sym l.2 ∙ (ap (slice_get (latches_of c)) j ∙ r.2))

-- what drives a place's signal says whether a variable stands for it
module _ (n : NetView) (sound : IsSound n) (order : List ℕ) (base : ℕ) (p : ℕ × ℕ) where
  -- an input
  pub input_leaf : (i number : ℕ) → slice_get n.drivers p.1 ≡ Some (driver.Input i) → slice_get order i ≡ Some number → IsLeafAt (circuit_of n) order base p number
  input_leaf i number drives at =
      let port = sound.drivers p.1 (driver.Input i) drives in
      let beside = at_beside (map named n.inputs) order i number (named port.0) (slice_get-map named n.inputs i port.0 port.1) at in
      inl (subst (λ (s : ℕ). IsInputNumber (circuit_of n) order s number) port.2 beside)

  -- a gate
  pub gate_leaf : (j : ℕ) → slice_get n.drivers p.1 ≡ Some (driver.Gate j) → (number : ℕ) → IsLeafAt (circuit_of n) order base p number → ⊥
  gate_leaf j drives number (inl h) =
      let i = input_owner n sound p.1 (beside_is_input (circuit_of n).inputs order p.1 number h) in no_input_gate (one_at n.drivers p.1 _ _ i.4 drives)
  gate_leaf j drives number (inr h) =
      let k = latch_from (circuit_of n).equations h.1 p.1 h.2 in no_gate_latch (one_at n.drivers p.1 _ _ drives (latch_of_equation n sound k.0 p.1 k.1 k.2).owner)

  module _ (j : ℕ) (drives : slice_get n.drivers p.1 ≡ Some (driver.Latch j)) where
    -- a latch, only where it is free in cycle 0
    pub latch_leaf : (number : ℕ) → IsLeafAt (circuit_of n) order base p number → IsFreeAt (circuit_of n) base p number
    latch_leaf number (inl h) =
        let i = input_owner n sound p.1 (beside_is_input (circuit_of n).inputs order p.1 number h) in absurd (no_input_latch (one_at n.drivers p.1 _ _ i.4 drives))
    latch_leaf number (inr h) = h

    pub latch_here : (r : Option ℕ) → IfSome r (λ number. IsFreeAt (circuit_of n) base p number) → IfSome r (λ number. IsLeafAt (circuit_of n) order base p number)
    latch_here (Some number) h = inr h
    latch_here None h = h

    pub latch_none : (r : Option ℕ) → IfNone r ((number : ℕ) → IsFreeAt (circuit_of n) base p number → ⊥) → IfNone r ((number : ℕ) → IsLeafAt (circuit_of n) order base p number → ⊥)
    latch_none (Some number) h = h
    latch_none None h = λ number leaf. h number (latch_leaf number leaf)

    module _ (l : LatchAt) (at : slice_get n.latches j ≡ Some l) where
      pub free_here : start_of l.out.0 l.init ≡ None → p.0 ≡ 0 → IsFreeAt (circuit_of n) base p (base + j)
      free_here none zero =
          let starts = nets_have_starts n sound in
          let out = latch_out n sound p.1 j drives l at in
          (zero, j, subst (λ (u : ℕ). slice_get (latches_of (circuit_of n)) j ≡ Some u) out (starts.3 j l at), subst (IsFree (circuit_of n)) out (starts.5 j l at none), refl)

      pub started : (bit : Bool) → start_of l.out.0 l.init ≡ Some (record { place = l.out.0; bit = bit }) → Contains (circuit_of n).starts (record { place = p.1; bit = bit })
      started bit is =
          subst (λ (u : ℕ). Contains (circuit_of n).starts (record { place = u; bit = bit })) (latch_out n sound p.1 j drives l at)
          ((nets_have_starts n sound).4 j l (record { place = l.out.0; bit = bit }) at is)

      pub started_none : (bit : Bool) → start_of l.out.0 l.init ≡ Some (record { place = l.out.0; bit = bit }) → (number : ℕ) → IsFreeAt (circuit_of n) base p number → ⊥
      started_none bit is number free = free.3 bit (started bit is)
