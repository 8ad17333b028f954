-- Latches that are tied to what they take over, one after the other.
use Rattle.std.proofs.Common.{◌≡◌, ◌≢◌, ◌+◌, ◌/◌, ◌%◌, ◌<◌, ◌∙◌, ℕ, zero, suc, Bool, true, false, List, [], ◌∷◌, length, slice_get, slice_set, Option, Some, refl, sym, ap, subst, arith, inl, inr}
use Rattle.std.specs.Prelude.{◌⊎◌, nat_lt, IsSomeAnd}
use Rattle.std.specs.List.{All}
use Rattle.std.proofs.lemmas.Bool.{cases_order, lt-ltb, le-ltb}
use Rattle.std.proofs.lemmas.List.{length-set}
use Rattle.std.proofs.lemmas.Option.{none-some, same_Some, slice_get_within}
use Rattle.circuit_theory.proofs.Lists.{All-from_each, at_of}
use Rattle.circuit_theory.specs.Cover.{Cover}
use Rattle.circuit_theory.specs.declared.Side.{Side}
use Rattle.flat_net.specs.declared.signals.Signal.{Signal}
use Rattle.flat_net.specs.declared.parts.LatchAt.{LatchAt}
use Rattle.flat_net.specs.View.{NetView}
use Rattle.flat_net.specs.Makes.{MakerView, with_next, next_set}
use Rattle.flat_net.proofs.NextSet.{next_set-is, length-next_set}
use Rattle.job_gen.specs.pair_gen.Cells.{data_of}
use Rattle.job_gen.specs.pair_gen.Sketch.{IsSketch, IsTied, latch_at, latch_cell, signal_of}
use Rattle.job_gen.proofs.pair_gen.Firsts.{at_first, length-first_of}

slice_get-set_same : {X : Type 0} (xs : List X) (i : ℕ) (y x : X) → slice_get xs i ≡ Some x → slice_get (slice_set xs i y) i ≡ Some y
slice_get-set_same [] i y x h = absurd (none-some x h)
slice_get-set_same (z ∷ xs) zero y x h = refl
slice_get-set_same (z ∷ xs) (suc i) y x h = slice_get-set_same xs i y x h

slice_get-set_other : {X : Type 0} (xs : List X) (i j : ℕ) (y : X) → j ≢ i → slice_get (slice_set xs i y) j ≡ slice_get xs j
slice_get-set_other [] i j y apart = refl
slice_get-set_other (z ∷ xs) zero zero y apart = absurd (apart refl)
slice_get-set_other (z ∷ xs) zero (suc j) y apart = refl
slice_get-set_other (z ∷ xs) (suc i) zero y apart = refl
slice_get-set_other (z ∷ xs) (suc i) (suc j) y apart = slice_get-set_other xs i j y (λ e. apart (ap suc e))

-- below a bound that grows by one
below_same : (j n : ℕ) → j ≢ n → nat_lt j (n + 1) ≡ nat_lt j n
below_same j n apart = by (cases_order j n)
  where
    by : (j ≡ n) ⊎ ((j < n) ⊎ (n < j)) → nat_lt j (n + 1) ≡ nat_lt j n
    by (inl e) = absurd (apart e)
    by (inr (inl l)) = lt-ltb j (n + 1) (omega arith) ∙ sym (lt-ltb j n l)
    by (inr (inr l)) = le-ltb j (n + 1) (omega arith) ∙ sym (le-ltb j n (omega arith))

module _ (circuit : Side) (before : MakerView) where
  -- no latch is tied yet
  pub tied_none : (regroup : Bool) (words : List ℕ) (covers : List Cover) → IsSketch circuit regroup words covers before 40 120 5040 → IsTied circuit before before 0
  tied_none regroup words covers s = record {
    net = refl;
    latch_count = ap length s.latches ∙ length-first_of (latch_at circuit false) 120;
    latches = λ j l. at_first (latch_at circuit false) before.net.latches 120 j s.latches l ∙ ap (λ (b : Bool). Some (latch_at circuit b j)) (sym (le-ltb j 0 (omega arith)));
    set_count = ap length s.set ∙ length-first_of (λ _. false) 120;
    set = λ j l. at_first (λ _. false) before.set 120 j s.set l ∙ ap Some (sym (le-ltb j 0 (omega arith)));
  }

  module _ (made : MakerView) (n : ℕ) (l : n < 120) (t : IsTied circuit before made n) where
    here : slice_get made.net.latches n ≡ Some (latch_at circuit (nat_lt n n) n)
    here = t.latches n l

    -- the next latch drives its signal
    pub next_latch : IsSomeAnd (slice_get made.net.latches n) (λ (latch : LatchAt). latch.out ≡ signal_of (latch_cell n))
    next_latch = subst (λ (o : Option LatchAt). IsSomeAnd o (λ (latch : LatchAt). latch.out ≡ signal_of (latch_cell n))) (sym here) refl

    pub still : length made.net.drivers ≡ length before.net.drivers
    still = ap (λ (m : NetView). length m.drivers) t.net

    next : Signal
    next = signal_of (data_of circuit (n / 40) (n % 40))

    tied_latch : LatchAt
    tied_latch = record (latch_at circuit (nat_lt n n) n) { next = next }

    is_tied : tied_latch ≡ latch_at circuit true n
    unfolding tied_latch next
    is_tied = refl

    latches_after : (j : ℕ) → j < 120 → slice_get (next_set made.net.latches n next) j ≡ Some (latch_at circuit (nat_lt j (n + 1)) j)
    unfolding tied_latch
    latches_after j lj = ap (λ (ls : List LatchAt). slice_get ls j) (sym (next_set-is made.net.latches n next (latch_at circuit (nat_lt n n) n) here)) ∙ by (cases_order j n)
      where
        by : (j ≡ n) ⊎ ((j < n) ⊎ (n < j)) → slice_get (slice_set made.net.latches n tied_latch) j ≡ Some (latch_at circuit (nat_lt j (n + 1)) j)
        by (inl e) =
            subst (λ (k : ℕ). slice_get (slice_set made.net.latches n tied_latch) k ≡ Some (latch_at circuit (nat_lt k (n + 1)) k)) (sym e)
            (slice_get-set_same made.net.latches n tied_latch (latch_at circuit (nat_lt n n) n) here ∙ ap Some is_tied ∙ ap (λ (b : Bool). Some (latch_at circuit b n)) (sym (lt-ltb n (n + 1) (omega arith))))
        by (inr (inl k)) = other (λ e. omega (arith, e, k))
          where
            other : j ≢ n → slice_get (slice_set made.net.latches n tied_latch) j ≡ Some (latch_at circuit (nat_lt j (n + 1)) j)
            other apart = slice_get-set_other made.net.latches n j tied_latch apart ∙ t.latches j lj ∙ ap (λ (b : Bool). Some (latch_at circuit b j)) (sym (below_same j n apart))
        by (inr (inr k)) = other (λ e. omega (arith, e, k))
          where
            other : j ≢ n → slice_get (slice_set made.net.latches n tied_latch) j ≡ Some (latch_at circuit (nat_lt j (n + 1)) j)
            other apart = slice_get-set_other made.net.latches n j tied_latch apart ∙ t.latches j lj ∙ ap (λ (b : Bool). Some (latch_at circuit b j)) (sym (below_same j n apart))

    set_after : (j : ℕ) → j < 120 → slice_get (slice_set made.set n true) j ≡ Some (nat_lt j (n + 1))
    set_after j lj = by (cases_order j n)
      where
        other : j ≢ n → slice_get (slice_set made.set n true) j ≡ Some (nat_lt j (n + 1))
        other apart = slice_get-set_other made.set n j true apart ∙ t.set j lj ∙ ap Some (sym (below_same j n apart))

        by : (j ≡ n) ⊎ ((j < n) ⊎ (n < j)) → slice_get (slice_set made.set n true) j ≡ Some (nat_lt j (n + 1))
        by (inl e) =
            subst (λ (k : ℕ). slice_get (slice_set made.set n true) k ≡ Some (nat_lt k (n + 1))) (sym e)
            (slice_get-set_same made.set n true (nat_lt n n) (t.set n l) ∙ ap Some (sym (lt-ltb n (n + 1) (omega arith))))
        by (inr (inl k)) = other (λ e. omega (arith, e, k))
        by (inr (inr k)) = other (λ e. omega (arith, e, k))

    -- one latch more is tied
    pub tied_more : (after : MakerView) → after ≡ record { net = with_next made.net n (signal_of (data_of circuit (n / 40) (n % 40))); set = slice_set made.set n true } → IsTied circuit before after (n + 1)
    unfolding next
    tied_more after e = subst (λ (m : MakerView). IsTied circuit before m (n + 1)) (sym e) (record {
      net = ap (λ (m : NetView). let k : NetView = record m { latches = next_set made.net.latches n (signal_of (data_of circuit (n / 40) (n % 40))) } in k) t.net;
      latch_count = length-next_set made.net.latches n (signal_of (data_of circuit (n / 40) (n % 40))) ∙ t.latch_count;
      latches = latches_after;
      set_count = length-set made.set n true ∙ t.set_count;
      set = set_after;
    })

  -- each next is set at the end
  pub all_set : (made : MakerView) → IsTied circuit before made 120 → All (λ (b : Bool). b ≡ true) made.set
  all_set made t = All-from_each (λ (b : Bool). b ≡ true) made.set (λ b there.
      let at = at_of made.set b there in
      let low = slice_get_within made.set at.0 b at.1 in
      let within : at.0 < 120 = let count = t.set_count in omega (arith, low, count) in
      sym (same_Some (nat_lt at.0 120) b (sym (t.set at.0 within) ∙ at.1)) ∙ lt-ltb at.0 120 within)
