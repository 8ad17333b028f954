-- Which way values go where a latch goes from 0 to 1, and all inputs and other latches stay.
use Rattle.std.specs.Prelude.{◌≡◌, ◌≢◌, ◌⊎◌, ℕ, Bool, true, false, ◌||◌, ◌==◌, if◌then◌else◌, Option, Some, unwrap_or, List, map, All, Contains}
use Rattle.circuit_theory.specs.Circuit.{Circuit, Reads, Reaches, IsSource}
use Rattle.circuit_theory.specs.Run.{ExtendsWith}
use Rattle.flat_net.specs.declared.signals.Signal.{Signal}
use Rattle.latch_kinds.specs.declared.unate_enable.ways.Way.{Way}

-- values with the latch at 0 and at 1, where each input and each other latch has one value
pub record IsRaise (c : Circuit ℕ) (u : ℕ) (low high : ℕ → Bool) : Type 0 where
  pub x : ℕ → Bool
  pub low_is : ExtendsWith c u false x low
  pub high_is : ExtendsWith c u true x high

-- among the signals stands what they read, but for what no way leads back from to the latch
abbrev pub AreClosedTo : Circuit ℕ → ℕ → List ℕ → Type 0
AreClosedTo c u signals = (s q : ℕ) → Contains signals s → Reads c s q → Contains signals q ⊎ (Reaches c q u → ⊥)

-- what doesn't fall goes on to be 1, and what doesn't rise has been 1 before
pub record MayGo (way : Way) (low high : Bool) : Type 0 where
  pub up : way.falls ≡ false → low ≡ true → high ≡ true
  pub down : way.rises ≡ false → high ≡ true → low ≡ true

-- what is a function of values that go these ways goes its own
abbrev pub GoOn : (ℕ → Way) → List Signal → Way → (List Bool → Bool) → Type 0
GoOn ways fanins way f =
    (low high : ℕ → Bool) → All (λ s. MayGo (ways s.0) (low s.0) (high s.0)) fanins → MayGo way (f (map low (map (λ s. s.0) fanins))) (f (map high (map (λ s. s.0) fanins)))

-- neither up nor down
abbrev pub still : Way
still = record { rises = false; falls = false }

-- of an and, or of an or, of two values
abbrev pub both_ways : Way → Way → Way
both_ways v w = record { rises = v.rises || w.rises; falls = v.falls || w.falls }

-- of a complement
abbrev pub turned : Way → Way
turned w = record { rises = w.falls; falls = w.rises }

-- of whether the place of a row matches the value: `-` does always, `1` where it is 1
abbrev pub at_place : ℕ → Way → Way
at_place place way = if place == 45 then still else (if place == 49 then way else turned way)

-- a signal without a way stays
abbrev pub way_in : (ℕ → Option Way) → ℕ → Way
way_in ways s = unwrap_or (ways s) still

-- the way is put, and nothing else is changed
pub record IsWayPut (old : ℕ → Option Way) (s : ℕ) (way : Way) (new : ℕ → Option Way) : Type 0 where
  pub here : new s ≡ Some way
  pub others : (q : ℕ) → q ≢ s → new q ≡ old q

-- The way of s is put, if it isn't a source and goes some way: it follows from those of what s reads. No other is changed.
pub record PutsWay (c : Circuit ℕ) (s : ℕ) (old new : ℕ → Way) : Type 0 where
  pub others : (q : ℕ) → q ≢ s → new q ≡ old q
  pub here : (IsSource c s × (new s ≡ old s)) ⊎ ((IsSource c s → ⊥) × ((u : ℕ) (low high : ℕ → Bool) → IsRaise c u low high → ((q : ℕ) → Reads c s q → MayGo (old q) (low q) (high q)) → MayGo (new s) (low s) (high s)))
