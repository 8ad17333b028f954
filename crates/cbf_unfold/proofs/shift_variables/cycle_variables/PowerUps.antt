-- The power-up of a net's latches.
use Rattle.std.proofs.Common.{◌≡◌, ◌∙◌, ◌+◌, ◌<◌, ℕ, suc, Bool, true, false, List, [], ◌∷◌, ◌++◌, length, get_or, slice_get, Some, None, Result, Ok, Err, IfOk, refl, sym, ap, arith, inl, inr}
use Rattle.std.proofs.lemmas.Option.{slice_get-get_or, slice_get_within, get_or_from_slice_get, same_Some}
use Rattle.std.specs.Prelude.{◌⊎◌}
use Rattle.std.proofs.lemmas.List.{get_or_push}
use Rattle.circuit_theory.specs.Circuit.{Circuit, Started}
use Rattle.circuit_theory.specs.Cone.{latches_of}
use Rattle.sec_base.specs.declared.basics.Init.{Init}
use Rattle.sec_base.specs.declared.basics.Init.TheVariants as init
use Rattle.flat_net.specs.declared.parts.LatchAt.{LatchAt}
use Rattle.flat_net.specs.View.{NetView, circuit_of, start_of}
use Rattle.flat_net.specs.Sound.{IsSound}
use Rattle.flat_net.proofs.Growth.{slice_get-append}
use Rattle.flat_net.proofs.Nets.{some_at}
use Rattle.circuit_laws.specs.reset_laws.Reset.{power_of, start_at, powers, powers_from}
use Rattle.circuit_laws.proofs.reset_laws.ResetAgreement.{power_is}
use Rattle.circuit_laws.proofs.reset_laws.ResetWindows.{start_none}
use Rattle.circuit_laws.proofs.reset_laws.reset_nets.Starts.{nets_have_starts}
use Rattle.cbf_unfold.proofs.shift_variables.Reading.{below_or_here}
use Rattle.cbf_unfold.specs.shift_variables.cycle_variables.Cycles.{start_or, IsPowerUp}

-- a power-up by its bits
powers_by_bits : (starts : List (Started ℕ)) (x : ℕ → ℕ → Bool) (number : ℕ) (us : List ℕ) (power : List Bool) → length power ≡ length us →
    ((j u : ℕ) → slice_get us j ≡ Some u → get_or power j false ≡ power_of (start_at starts u) (x (number + j) 0)) → power ≡ powers_from starts x number us
powers_by_bits starts x number [] [] long bits = refl
powers_by_bits starts x number [] (b ∷ power) long bits = absurd (let z : suc (length power) ≡ 0 = long in omega arith)
powers_by_bits starts x number (u ∷ us) [] long bits = absurd (let z : 0 ≡ suc (length us) = long in omega arith)
powers_by_bits starts x number (u ∷ us) (b ∷ power) long bits =
    let head : b ≡ power_of (start_at starts u) (x number 0) = bits 0 u refl ∙ ap (λ k. power_of (start_at starts u) (x k 0)) (let e : number + 0 ≡ number = omega arith in e) in
    let tail : power ≡ powers_from starts x (suc number) us =
    powers_by_bits starts x (suc number) us power (let z : suc (length power) ≡ suc (length us) = long in omega arith)
    (λ j v h. bits (suc j) v h ∙ ap (λ k. power_of (start_at starts v) (x k 0)) (let e : number + suc j ≡ suc number + j = omega arith in e)) in
    cc

-- the power-up of bits that are the variables'
pub powers_are : (c : Circuit ℕ) (base count : ℕ) (x : ℕ → ℕ → Bool) (free power : List Bool) → count ≡ length (latches_of c) → ((j : ℕ) → j < count → get_or free j false ≡ x (base + j) 0) → IsPowerUp c free power → power ≡ powers c base x
powers_are c base count x free power same bits up =
    powers_by_bits c.starts x base (latches_of c) power up.each
    (λ j u at. up.is j u at ∙ ap (λ b. power_of (start_at c.starts u) b) (bits j (let k = slice_get_within (latches_of c) j u at in omega (arith, k, same))))

module _ (n : NetView) (sound : IsSound n) where
  -- the initial value by the latch's own word
  start_is : (j : ℕ) (l : LatchAt) (bit : Bool) → slice_get n.latches j ≡ Some l → start_or l.init bit ≡ power_of (start_at (circuit_of n).starts l.out.0) bit
  start_is j l bit at = go l.init refl
    where
      c : Circuit ℕ
      c = circuit_of n

      fixed : (b : Bool) → start_of l.out.0 l.init ≡ Some (record { place = l.out.0; bit = b }) → b ≡ power_of (start_at (circuit_of n).starts l.out.0) bit
      fixed b e = sym (power_is (circuit_of n) (nets_have_starts n sound).0 l.out.0 b bit ((nets_have_starts n sound).4 j l (record { place = l.out.0; bit = b }) at e))

      free : start_of l.out.0 l.init ≡ None → bit ≡ power_of (start_at (circuit_of n).starts l.out.0) bit
      free e = sym (ap (λ o. power_of o bit) (start_none (circuit_of n).starts l.out.0 ((nets_have_starts n sound).5 j l at e)))

      go : (i : Init) → l.init ≡ i → start_or l.init bit ≡ power_of (start_at (circuit_of n).starts l.out.0) bit
      go init.Zero e = ap (λ i. start_or i bit) e ∙ fixed false (ap (start_of l.out.0) e)
      go init.One e = ap (λ i. start_or i bit) e ∙ fixed true (ap (start_of l.out.0) e)
      go init.DontCare e = ap (λ i. start_or i bit) e ∙ free (ap (start_of l.out.0) e)
      go init.Unknown e = ap (λ i. start_or i bit) e ∙ free (ap (start_of l.out.0) e)

  -- each bit by the latch's own word
  pub power_up_is : (free power : List Bool) → length power ≡ length n.latches → ((j : ℕ) (l : LatchAt) → slice_get n.latches j ≡ Some l → get_or power j false ≡ start_or l.init (get_or free j false)) → IsPowerUp (circuit_of n) free power
  power_up_is free power long each = record {
    each = long ∙ sym (nets_have_starts n sound).2;
    is = λ j u at. one j u at (latch_at j (let k = slice_get_within (latches_of (circuit_of n)) j u at in omega (arith, k, (nets_have_starts n sound).2)));
  }
    where
      latch_at : (j : ℕ) → j < length n.latches → (l : LatchAt) × (slice_get n.latches j ≡ Some l)
      latch_at j h = some_at n.latches j h

      one : (j u : ℕ) → slice_get (latches_of (circuit_of n)) j ≡ Some u → (l : LatchAt) × (slice_get n.latches j ≡ Some l) → get_or power j false ≡ power_of (start_at (circuit_of n).starts u) (get_or free j false)
      one j u at (l, here) =
          let same : l.out.0 ≡ u = same_Some l.out.0 u (sym ((nets_have_starts n sound).3 j l here) ∙ at) in
          each j l here ∙ (start_is j l (get_or free j false) here ∙ ap (λ (k : ℕ). power_of (start_at (circuit_of n).starts k) (get_or free j false)) same)

-- one bit more
pub power_next : (latches : List LatchAt) (free power : List Bool) (j : ℕ) (l : LatchAt) (made : List Bool) → slice_get latches j ≡ Some l → length power ≡ j → made ≡ power ++ start_or l.init (get_or free j false) ∷ [] →
    ((k : ℕ) (m : LatchAt) → k < j → slice_get latches k ≡ Some m → get_or power k false ≡ start_or m.init (get_or free k false)) →
    (k : ℕ) (m : LatchAt) → k < j + 1 → slice_get latches k ≡ Some m → get_or made k false ≡ start_or m.init (get_or free k false)
power_next latches free power j l made at long is before k m below here = go (below_or_here k j below)
  where
    bit : Bool
    bit = start_or l.init (get_or free j false)

    go : (k < j) ⊎ (k ≡ j) → get_or made k false ≡ start_or m.init (get_or free k false)
    go (inl h) =
        let inside : k < length power = omega (arith, h, long) in
        ap (λ (bs : List Bool). get_or bs k false) is ∙ (get_or_from_slice_get (power ++ bit ∷ []) k (get_or power k false) false (slice_get-append power (bit ∷ []) k (get_or power k false) (slice_get-get_or power k false inside)) ∙ before k m h here)
    go (inr e) =
        let same : l ≡ m = same_Some l m (sym at ∙ (ap (slice_get latches) (sym e) ∙ here)) in
        ap (λ (bs : List Bool). get_or bs k false) is
        ∙ (get_or_push power bit false k (long ∙ sym e)
        ∙ (ap (λ (x : LatchAt). start_or x.init (get_or free j false)) same ∙ ap (λ i. start_or m.init (get_or free i false)) (sym e)))

-- the same of what a call gave
pub powers_ok : {E : Type 0} (c : Circuit ℕ) (base count : ℕ) (x : ℕ → ℕ → Bool) (free : List Bool) (r : Result (List Bool) E) → count ≡ length (latches_of c) → ((j : ℕ) → j < count → get_or free j false ≡ x (base + j) 0) → IfOk r (IsPowerUp c free) →
    IfOk r (λ power. power ≡ powers c base x)
powers_ok c base count x free (Ok power) same bits up = powers_are c base count x free power same bits up
powers_ok c base count x free (Err e) same bits up = up
