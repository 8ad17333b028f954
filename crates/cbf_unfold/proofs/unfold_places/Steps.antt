-- What drives a signal says what its place reads.
use Rattle.std.proofs.Common.{◌≡◌, ◌+◌, ◌-◌, ◌<◌, ℕ, length, slice_get, Some, refl, sym, arith, inl, inr}
use Rattle.std.specs.List.{Contains}
use Rattle.circuit_theory.specs.Circuit.{Reads}
use Rattle.flat_net.specs.declared.signals.Signal.{Signal}
use Rattle.flat_net.specs.declared.parts.Gate.{Gate}
use Rattle.flat_net.specs.declared.parts.LatchAt.{LatchAt}
use Rattle.flat_net.specs.declared.parts.Driver.TheVariants as driver
use Rattle.flat_net.specs.View.{NetView, circuit_of}
use Rattle.flat_net.specs.Sound.{IsSound}
use Rattle.flat_net.proofs.Drivers as drivers
use Rattle.cbf_unfold.specs.unfold_places.Places.{Steps}

module _ (n : NetView) (sound : IsSound n) where
  -- an input's place reads nothing
  pub input_steps : (t s i : ℕ) (q : ℕ × ℕ) → slice_get n.drivers s ≡ Some (driver.Input i) → Steps (circuit_of n) (t, s) q → ⊥
  input_steps t s i q drives (inl h) = drivers.input_reads n sound s i q.1 drives h.1
  input_steps t s i q drives (inr h) = drivers.input_latch n sound s i q.1 h.1 drives h.2

  module _ (s j : ℕ) (drives : slice_get n.drivers s ≡ Some (driver.Gate j)) (g : Gate) (at : slice_get n.gates j ≡ Some g) where
    -- a gate's place reads its fan-ins in the same cycle
    pub gate_steps_to : (t : ℕ) (f : Signal) → Contains g.fanins f → Steps (circuit_of n) (t, s) (t, f.0)
    gate_steps_to t f h = inl (refl, drivers.gate_reads_to n sound s j drives g at f h)

    pub gate_steps_from : (t : ℕ) (q : ℕ × ℕ) → Steps (circuit_of n) (t, s) q → (f : Signal) × Contains g.fanins f × ((t, f.0) ≡ q)
    gate_steps_from t q (inl h) = let f = drivers.gate_reads_from n sound s j drives g at q.1 h.1 in (f.0, f.1, λ i. (sym h.0 i, f.2 i))
    gate_steps_from t q (inr h) = absurd (drivers.gate_latch n sound s j drives g at h.1 q.1 h.2)

  module _ (s j : ℕ) (drives : slice_get n.drivers s ≡ Some (driver.Latch j)) (l : LatchAt) (at : slice_get n.latches j ≡ Some l) where
    -- a latch's place reads what the latch takes over, in the cycle before
    pub latch_steps_to : (t : ℕ) → 0 < t → Steps (circuit_of n) (t, s) (t - 1, l.next.0)
    latch_steps_to t h = inr (omega arith, l.name, drivers.latch_equation_stands n sound s j drives l at)

    pub latch_back : (t : ℕ) (q : ℕ × ℕ) → Steps (circuit_of n) (t, s) q → q.0 + 1 ≡ t
    latch_back t q (inl h) = absurd (drivers.latch_reads n sound s j drives l at q.1 h.1)
    latch_back t q (inr h) = h.0

    pub latch_steps_from : (t : ℕ) (q : ℕ × ℕ) → Steps (circuit_of n) (t, s) q → (t - 1, l.next.0) ≡ q
    latch_steps_from t q (inl h) = absurd (drivers.latch_reads n sound s j drives l at q.1 h.1)
    latch_steps_from t q (inr h) =
        let next : l.next.0 ≡ q.1 = drivers.latch_next n sound s j drives l at h.1 q.1 h.2 in
        let cycle : t - 1 ≡ q.0 = omega (arith, h.0) in
        (λ i. (cycle i, next i))

  -- what is read is a signal of the net, and stands before
  pub step_within : (p q : ℕ × ℕ) → Steps (circuit_of n) p q → p.1 < length n.drivers → q.1 < length n.drivers
  step_within p q (inl h) inside = let below : q.1 < p.1 = drivers.reads_lower n sound p.1 q.1 h.1 in omega arith
  step_within p q (inr h) inside = drivers.latch_within n sound h.1 p.1 q.1 h.2

  pub step_lower : (p q : ℕ × ℕ) → Reads (circuit_of n) p.1 q.1 → q.1 < p.1
  step_lower p q h = drivers.reads_lower n sound p.1 q.1 h
