-- A latch that takes over another signal.
use Rattle.std.proofs.Common.{◌≡◌, ◌<◌, ◌∙◌, ℕ, zero, suc, List, [], ◌∷◌, length, slice_get, Some, slice_set, get_or, refl, sym, ap, subst, arith, inl, inr}
use Rattle.std.specs.Prelude.{◌⊎◌}
use Rattle.std.proofs.lemmas.Option.{none-some, same_Some, slice_get_within, slice_get_read}
use Rattle.flat_net.specs.declared.signals.Signal.{Signal}
use Rattle.flat_net.specs.declared.parts.LatchAt.{LatchAt}
use Rattle.flat_net.specs.declared.parts.Driver.{Driver}
use Rattle.flat_net.specs.declared.parts.Driver.TheVariants as driver
use Rattle.flat_net.specs.View.{NetView}
use Rattle.flat_net.specs.Sound.{IsSound, IsLatchOf, Drives}
use Rattle.flat_net.specs.Makes.{with_next, next_set}

-- a write at a place sets the next there
pub next_set-is : (ls : List LatchAt) (j : ℕ) (next : Signal) (l : LatchAt) → slice_get ls j ≡ Some l → slice_set ls j (record l { next = next }) ≡ next_set ls j next
next_set-is [] j next l h = absurd (none-some l h)
next_set-is (k ∷ ls) zero next l h = ap (λ (m : LatchAt). (record m { next = next }) ∷ ls) (sym (same_Some k l h))
next_set-is (k ∷ ls) (suc j) next l h = ap (λ ms. k ∷ ms) (next_set-is ls j next l h)

pub length-next_set : (ls : List LatchAt) (j : ℕ) (next : Signal) → length (next_set ls j next) ≡ length ls
length-next_set [] j next = refl
length-next_set (l ∷ ls) zero next = refl
length-next_set (l ∷ ls) (suc j) next = ap suc (length-next_set ls j next)

-- each latch is an old one, or an old one with that next
pub next_set-from : (ls : List LatchAt) (j : ℕ) (next : Signal) (i : ℕ) (x : LatchAt) → slice_get (next_set ls j next) i ≡ Some x
    → (y : LatchAt) × (slice_get ls i ≡ Some y) × ((x ≡ y) ⊎ (x ≡ record y { next = next }))
next_set-from [] j next i x h = absurd (none-some x h)
next_set-from (l ∷ ls) zero next zero x h = (l, refl, inr (sym (same_Some (record l { next = next }) x h)))
next_set-from (l ∷ ls) zero next (suc i) x h = (x, h, inl refl)
next_set-from (l ∷ ls) (suc j) next zero x h = (l, refl, inl (sym (same_Some l x h)))
next_set-from (l ∷ ls) (suc j) next (suc i) x h = next_set-from ls j next i x h

-- each old latch keeps its place and its signal
pub next_set-to : (ls : List LatchAt) (j : ℕ) (next : Signal) (i : ℕ) (y : LatchAt) → slice_get ls i ≡ Some y
    → (x : LatchAt) × (slice_get (next_set ls j next) i ≡ Some x) × (x.out ≡ y.out)
next_set-to [] j next i y h = absurd (none-some y h)
next_set-to (l ∷ ls) zero next zero y h = (record l { next = next }, refl, ap (λ k. k.out) (same_Some l y h))
next_set-to (l ∷ ls) zero next (suc i) y h = (y, h, refl)
next_set-to (l ∷ ls) (suc j) next zero y h = (y, h, refl)
next_set-to (l ∷ ls) (suc j) next (suc i) y h = next_set-to ls j next i y h

module _ (n : NetView) (j : ℕ) (next : Signal) (sound : IsSound n) (within : next.0 < length n.drivers) where
  latch_with_next : (i : ℕ) (y : LatchAt) → IsLatchOf n i y → IsLatchOf (with_next n j next) i (record y { next = next })
  latch_with_next i y h = record { owner = h.owner; named = h.named; within = within }

  latch_kept : (i : ℕ) (y : LatchAt) → IsLatchOf n i y → IsLatchOf (with_next n j next) i y
  latch_kept i y h = record { owner = h.owner; named = h.named; within = h.within }

  latch_after : (i : ℕ) (x : LatchAt) → slice_get (next_set n.latches j next) i ≡ Some x → IsLatchOf (with_next n j next) i x
  latch_after i x h = let old = next_set-from n.latches j next i x h in pick old.0 (sound.latches i old.0 old.1) old.2
    where
      pick : (y : LatchAt) → IsLatchOf n i y → (x ≡ y) ⊎ (x ≡ record y { next = next }) → IsLatchOf (with_next n j next) i x
      pick y own (inl same) = subst (IsLatchOf (with_next n j next) i) (sym same) (latch_kept i y own)
      pick y own (inr same) = subst (IsLatchOf (with_next n j next) i) (sym same) (latch_with_next i y own)

  driver_after : (s : ℕ) (d : Driver) → Drives n s d → Drives (with_next n j next) s d
  driver_after s (driver.Input i) h = h
  driver_after s (driver.Gate i) h = h
  driver_after s (driver.Latch i) h = let new = next_set-to n.latches j next i h.0 h.1 in (new.0, new.1, ap (λ o. o.0) new.2 ∙ h.2)

  pub sound_next : IsSound (with_next n j next)
  sound_next = record {
    inputs = λ i port h. let own = sound.inputs i port h in record { owner = own.owner; named = own.named };
    gates = λ i g h. let own = sound.gates i g h in record { owner = own.owner; above = own.above; cover = own.cover; covered = own.covered; width = own.width };
    ordered = sound.ordered;
    latches = latch_after;
    drivers = λ s d h. driver_after s d (sound.drivers s d h);
    outputs = sound.outputs;
    covers = sound.covers;
    named = sound.named;
    distinct = sound.distinct;
    few = sound.few;
    few_inputs = sound.few_inputs;
    few_gates = sound.few_gates;
    few_latches = omega (arith, sound.few_latches, length-next_set n.latches j next);
    few_covers = sound.few_covers;
  }

-- a write of the next at a place, where the view is n
pub written : (view n : NetView) (j : ℕ) (next : Signal) (read l : LatchAt) → view ≡ n → slice_get view.latches j ≡ Some l → read ≡ get_or view.latches j read
    → ◌≡◌ {A = NetView} (record view { latches = slice_set view.latches j (record read { next = next }) }) (with_next n j next)
written view n j next read l same here value =
    let at : slice_get view.latches j ≡ Some read = slice_get_read view.latches (length view.latches) j read refl (slice_get_within view.latches j l here) value in
    ap (λ (ls : List LatchAt). let m : NetView = record view { latches = ls } in m) (next_set-is view.latches j next read at) ∙ ap (λ (m : NetView). with_next m j next) same
