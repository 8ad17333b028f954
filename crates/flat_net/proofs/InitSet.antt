-- A latch with another initial value.
use Rattle.std.proofs.Common.{◌≡◌, ◌<◌, ◌∙◌, ℕ, zero, suc, List, [], ◌∷◌, length, slice_get, Some, slice_set, get_or, refl, sym, ap, subst, arith, inl, inr}
use Rattle.std.specs.Prelude.{◌⊎◌}
use Rattle.std.proofs.lemmas.Option.{none-some, same_Some, slice_get_within, slice_get_read}
use Rattle.sec_base.specs.declared.basics.Init.{Init}
use Rattle.flat_net.specs.declared.parts.LatchAt.{LatchAt}
use Rattle.flat_net.specs.declared.parts.Driver.{Driver}
use Rattle.flat_net.specs.declared.parts.Driver.TheVariants as driver
use Rattle.flat_net.specs.View.{NetView}
use Rattle.flat_net.specs.Sound.{IsSound, IsLatchOf, Drives}
use Rattle.flat_net.specs.Makes.{with_init, init_set}

-- a write at a place sets the initial value there
pub init_set-is : (ls : List LatchAt) (j : ℕ) (init : Init) (l : LatchAt) → slice_get ls j ≡ Some l → slice_set ls j (record l { init = init }) ≡ init_set ls j init
init_set-is [] j init l h = absurd (none-some l h)
init_set-is (k ∷ ls) zero init l h = ap (λ (m : LatchAt). (record m { init = init }) ∷ ls) (sym (same_Some k l h))
init_set-is (k ∷ ls) (suc j) init l h = ap (λ ms. k ∷ ms) (init_set-is ls j init l h)

pub length-init_set : (ls : List LatchAt) (j : ℕ) (init : Init) → length (init_set ls j init) ≡ length ls
length-init_set [] j init = refl
length-init_set (l ∷ ls) zero init = refl
length-init_set (l ∷ ls) (suc j) init = ap suc (length-init_set ls j init)

-- each latch is an old one, or an old one with that value
pub init_set-from : (ls : List LatchAt) (j : ℕ) (init : Init) (i : ℕ) (x : LatchAt) → slice_get (init_set ls j init) i ≡ Some x
    → (y : LatchAt) × (slice_get ls i ≡ Some y) × ((x ≡ y) ⊎ (x ≡ record y { init = init }))
init_set-from [] j init i x h = absurd (none-some x h)
init_set-from (l ∷ ls) zero init zero x h = (l, refl, inr (sym (same_Some (record l { init = init }) x h)))
init_set-from (l ∷ ls) zero init (suc i) x h = (x, h, inl refl)
init_set-from (l ∷ ls) (suc j) init zero x h = (l, refl, inl (sym (same_Some l x h)))
init_set-from (l ∷ ls) (suc j) init (suc i) x h = init_set-from ls j init i x h

-- each old latch keeps its place and its signal
pub init_set-to : (ls : List LatchAt) (j : ℕ) (init : Init) (i : ℕ) (y : LatchAt) → slice_get ls i ≡ Some y
    → (x : LatchAt) × (slice_get (init_set ls j init) i ≡ Some x) × (x.out ≡ y.out)
init_set-to [] j init i y h = absurd (none-some y h)
init_set-to (l ∷ ls) zero init zero y h = (record l { init = init }, refl, ap (λ k. k.out) (same_Some l y h))
init_set-to (l ∷ ls) zero init (suc i) y h = (y, h, refl)
init_set-to (l ∷ ls) (suc j) init zero y h = (y, h, refl)
init_set-to (l ∷ ls) (suc j) init (suc i) y h = init_set-to ls j init i y h

module _ (n : NetView) (j : ℕ) (init : Init) (sound : IsSound n) where
  latch_with_init : (i : ℕ) (y : LatchAt) → IsLatchOf n i y → IsLatchOf (with_init n j init) i (record y { init = init })
  latch_with_init i y h = record { owner = h.owner; named = h.named; within = h.within }

  latch_kept : (i : ℕ) (y : LatchAt) → IsLatchOf n i y → IsLatchOf (with_init n j init) i y
  latch_kept i y h = record { owner = h.owner; named = h.named; within = h.within }

  latch_after : (i : ℕ) (x : LatchAt) → slice_get (init_set n.latches j init) i ≡ Some x → IsLatchOf (with_init n j init) i x
  latch_after i x h = let old = init_set-from n.latches j init i x h in pick old.0 (sound.latches i old.0 old.1) old.2
    where
      pick : (y : LatchAt) → IsLatchOf n i y → (x ≡ y) ⊎ (x ≡ record y { init = init }) → IsLatchOf (with_init n j init) i x
      pick y own (inl same) = subst (IsLatchOf (with_init n j init) i) (sym same) (latch_kept i y own)
      pick y own (inr same) = subst (IsLatchOf (with_init n j init) i) (sym same) (latch_with_init i y own)

  driver_after : (s : ℕ) (d : Driver) → Drives n s d → Drives (with_init n j init) s d
  driver_after s (driver.Input i) h = h
  driver_after s (driver.Gate i) h = h
  driver_after s (driver.Latch i) h = let new = init_set-to n.latches j init i h.0 h.1 in (new.0, new.1, ap (λ o. o.0) new.2 ∙ h.2)

  pub sound_init : IsSound (with_init n j init)
  sound_init = record {
    inputs = λ i port h. let own = sound.inputs i port h in record { owner = own.owner; named = own.named };
    gates = λ i g h. let own = sound.gates i g h in record { owner = own.owner; above = own.above; cover = own.cover; covered = own.covered; width = own.width };
    ordered = sound.ordered;
    latches = latch_after;
    drivers = λ s d h. driver_after s d (sound.drivers s d h);
    outputs = sound.outputs;
    covers = sound.covers;
    named = sound.named;
    distinct = sound.distinct;
    few = sound.few;
    few_inputs = sound.few_inputs;
    few_gates = sound.few_gates;
    few_latches = omega (arith, sound.few_latches, length-init_set n.latches j init);
    few_covers = sound.few_covers;
  }

-- a write of the initial value at a place, where the view is n
pub written : (view n : NetView) (j : ℕ) (init : Init) (read : LatchAt) → view ≡ n → j < length n.latches → read ≡ get_or view.latches j read
    → ◌≡◌ {A = NetView} (record view { latches = slice_set view.latches j (record read { init = init }) }) (with_init n j init)
written view n j init read same within value =
    let at : slice_get view.latches j ≡ Some read = slice_get_read view.latches (length view.latches) j read refl (subst (λ (m : NetView). j < length m.latches) (sym same) within) value in
    ap (λ (ls : List LatchAt). let m : NetView = record view { latches = ls } in m) (init_set-is view.latches j init read at) ∙ ap (λ (m : NetView). with_init m j init) same
