-- The net of a shift register with a latch behind keeps what each net keeps.
use Rattle.std.proofs.Common.{◌≡◌, ◌∙◌, ℕ, zero, suc, ◌<◌, ◌≤◌, [], ◌∷◌, length, slice_get, Some, refl, sym, ap, subst, arith, inl, inr}
use Rattle.std.specs.Prelude.{◌⊎◌}
use Rattle.std.proofs.lemmas.List.{length-replicate}
use Rattle.std.proofs.lemmas.List.Elements.{All-from_recursion}
use Rattle.std.proofs.lemmas.Option.{same_Some}
use Rattle.base_tables.specs.Table.{AreDistinct}
use Rattle.sec_base.specs.Cover.{IsCoverSound}
use Rattle.flat_net.specs.declared.parts.Driver.{Driver}
use Rattle.flat_net.specs.declared.parts.Driver.TheVariants as driver
use Rattle.flat_net.specs.declared.parts.Gate.{Gate}
use Rattle.flat_net.specs.declared.parts.LatchAt.{LatchAt}
use Rattle.flat_net.specs.declared.parts.Port.{Port}
use Rattle.flat_net.specs.declared.signals.Signal.{Signal}
use Rattle.flat_net.specs.Sound.{Drives, IsInputOf, IsGateOf, IsLatchOf, IsSound}
use Rattle.call_rows.specs.circuit_samples.event_samples.Samples.{load_cover}
use Rattle.premise_rows.specs.event_class_premises.Shifted.{name_of, shift_latch, last_latch, shifted}
use Rattle.premise_rows.proofs.block_premises.TurningNets.{each}
use Rattle.premise_rows.proofs.event_pair_premises.HeldPair.{kept}
use Rattle.premise_rows.proofs.event_class_premises.Listed.{first_at, first_long, entry_is, pushed_at, last_at, pushed_is, pushed_long}

name_long : (k : ℕ) → length (name_of k) ≡ suc k
unfolding name_of
name_long k = length-replicate (suc k) 115

module _ (n : ℕ) (small : n ≤ 100000) where
  drivers_long : length (shifted n).drivers ≡ suc (suc (suc n))
  drivers_long = ap suc (pushed_long driver.Latch (suc n) (driver.Gate 0))

  name_at : (k : ℕ) → k < suc (suc (suc n)) → slice_get (shifted n).names k ≡ Some (name_of k)
  name_at k l = first_at name_of (suc (suc (suc n))) k l

  distinct : AreDistinct (shifted n).names
  distinct i j name h k =
      let first = ap length (entry_is name_of (suc (suc (suc n))) i name h).1 in
      let second = ap length (entry_is name_of (suc (suc (suc n))) j name k).1 in
      let own = name_long i in
      let other = name_long j in
      omega (arith, first, second, own, other)

  input : (i : ℕ) (port : Port) → slice_get (shifted n).inputs i ≡ Some port → IsInputOf (shifted n) i port
  input = each (IsInputOf (shifted n)) (shifted n).inputs (record { owner = refl; named = name_at 0 (omega arith) }, tt)

  gate : (j : ℕ) (g : Gate) → slice_get (shifted n).gates j ≡ Some g → IsGateOf (shifted n) j g
  gate = each (IsGateOf (shifted n)) (shifted n).gates (
    record {
      owner = last_at driver.Latch (suc n) (driver.Gate 0) (suc n) refl;
      above = All-from_recursion (λ (f : Signal). f.0 < suc (suc n)) (record { 0 = n } ∷ record { 0 = 0 } ∷ record { 0 = suc n } ∷ []) (omega arith, (omega arith, (omega arith, tt)));
      cover = load_cover;
      covered = refl;
      width = refl;
    },
    tt,
  )

  ordered : (i j : ℕ) (g h : Gate) → i < j → slice_get (shifted n).gates i ≡ Some g → slice_get (shifted n).gates j ≡ Some h → g.out.0 < h.out.0
  ordered i j g h less l r = let second : j ≡ 0 = each (λ k (y : Gate). k ≡ 0) (shifted n).gates (refl, tt) j h r in absurd (omega (arith, second, less))

  latch : (j : ℕ) (l : LatchAt) → slice_get (shifted n).latches j ≡ Some l → IsLatchOf (shifted n) j l
  latch j l h = go (pushed_is shift_latch n (last_latch n) j l h)
    where
      early : j < n → IsLatchOf (shifted n) j (shift_latch j)
      early less = record { owner = pushed_at driver.Latch (suc n) (driver.Gate 0) j (omega (arith, less)); named = name_at (suc j) (omega (arith, less)); within = let long = drivers_long in omega (arith, less, long) }

      late : IsLatchOf (shifted n) n (last_latch n)
      late = record { owner = pushed_at driver.Latch (suc n) (driver.Gate 0) n (omega arith); named = name_at (suc n) (omega arith); within = let long = drivers_long in omega (arith, long) }

      go : ((j < n) × (shift_latch j ≡ l)) ⊎ ((j ≡ n) × (last_latch n ≡ l)) → IsLatchOf (shifted n) j l
      go (inl k) = subst (IsLatchOf (shifted n) j) k.1 (early k.0)
      go (inr k) = subst (IsLatchOf (shifted n) j) k.1 (subst (λ (i : ℕ). IsLatchOf (shifted n) i (last_latch n)) (sym k.0) late)

  drives : (i : ℕ) (d : Driver) → slice_get (shifted n).drivers i ≡ Some d → Drives (shifted n) i d
  drives zero d h = subst (Drives (shifted n) 0) (same_Some (driver.Input 0) d h) (_, refl, refl)
  drives (suc i) d h = go (pushed_is driver.Latch (suc n) (driver.Gate 0) i d h)
    where
      cases : (k m : ℕ) → k < suc m → (k < m) ⊎ (k ≡ m)
      cases k m l = grind arith

      by : (i < n) ⊎ (i ≡ n) → Drives (shifted n) (suc i) (driver.Latch i)
      by (inl l) = (shift_latch i, pushed_at shift_latch n (last_latch n) i l, refl)
      by (inr e) = (last_latch n, last_at shift_latch n (last_latch n) i e, ap suc (sym e))

      go : ((i < suc n) × (driver.Latch i ≡ d)) ⊎ ((i ≡ suc n) × (driver.Gate 0 ≡ d)) → Drives (shifted n) (suc i) d
      go (inl k) = subst (Drives (shifted n) (suc i)) k.1 (by (cases i n k.0))
      go (inr k) = subst (Drives (shifted n) (suc i)) k.1 (_, refl, ap suc (sym k.0))

  pub shift_sound : IsSound (shifted n)
  shift_sound =
      let long = drivers_long in
      let latches = pushed_long shift_latch n (last_latch n) in
      record {
        inputs = input;
        gates = gate;
        ordered = ordered;
        latches = latch;
        drivers = drives;
        outputs = All-from_recursion (λ (port : Port). port.signal.0 < length (shifted n).drivers) (shifted n).outputs (omega (arith, long), tt);
        covers = All-from_recursion IsCoverSound (load_cover ∷ []) (kept.left_sound.covers 0 load_cover (omega arith), tt);
        named = first_long name_of (suc (suc (suc n))) ∙ sym long;
        distinct = distinct;
        few = omega (arith, long, small);
        few_inputs = omega (arith, long);
        few_gates = omega (arith, long);
        few_latches = omega (arith, long, latches);
        few_covers = omega arith;
      }
