-- What a contract sees of the simulators.
use Rattle.std.specs.Prelude.{◌≡◌, ℕ, ◌+◌, ◌-◌, ◌<◌, ◌↔◌, Bool, true, List, [], ◌∷◌, ◌++◌, length, map, slice_get, Some}
use Rattle.circuit_theory.specs.Run.{Marked}
use Rattle.flat_net.specs.View.{NetView, circuit_of}
use Rattle.flat_net.specs.declared.parts.LatchAt.{LatchAt}
use Rattle.signal_graph.specs.inner_cone.latch_cone.Cones.{IsMarkedBy}
use Rattle.cycle_sim.specs.Runs.{IsRunFrom}

-- the net, how many cycles are computed, the value of each signal in the latest, and that of each latch in the next
pub record SimView : Type 0 where
  pub net : NetView
  pub cycles : ℕ
  pub values : List Bool
  pub ahead : List Bool

-- The simulator has gone through these rows from this power-up: in each such run its values are those of the latest cycle,
-- and, if there is one row more, what it has ahead are the latches' values in the cycle of that row.
pub record HasRun (s : SimView) (power : List Bool) (rows : List (List Bool)) : Type 0 where
  pub cycles : s.cycles ≡ length rows
  pub values : (run : ℕ → ℕ → Bool) → IsRunFrom s.net power rows run → (t p : ℕ) → length rows ≡ t + 1 → p < length s.net.drivers → slice_get s.values p ≡ Some (run t p)
  pub ahead : (run : ℕ → ℕ → Bool) (row : List Bool) → IsRunFrom s.net power (rows ++ row ∷ []) run → map (λ l. run (length rows) l.out.0) s.net.latches ≡ s.ahead

-- The bit is the value of the signal in the latest cycle of the run: whatever power-up and rows the simulator has gone through.
abbrev pub IsLatest : SimView → ℕ → Bool → Type 0
IsLatest s p bit =
    (power : List Bool) (rows : List (List Bool)) (run : ℕ → ℕ → Bool) → HasRun s power rows → IsRunFrom s.net power rows run → bit ≡ run (s.cycles - 1) p

-- a simulator with a bit for each latch that says whether it counts as enabled, the mark of each signal in the latest cycle, and
-- that of each latch in the next
pub record MarkedView : Type 0 where
  pub sim : SimView
  pub enabled : List Bool
  pub marks : List Bool
  pub marks_ahead : List Bool

-- the bit is the mark of a signal in a cycle of the run, where the latches whose bits are set count as enabled
abbrev pub IsMark : NetView → List Bool → (ℕ → ℕ → Bool) → ℕ → ℕ → Bool → Type 0
IsMark n enabled run t p bit = (bit ≡ true) ↔ Marked (circuit_of n) (IsMarkedBy n.latches enabled) run t p

-- there is a bit at the place, and it is the mark of the signal in the cycle
abbrev pub HasMark : NetView → List Bool → (ℕ → ℕ → Bool) → ℕ → List Bool → ℕ → ℕ → Type 0
HasMark n enabled run t bits place p = (bit : Bool) × (slice_get bits place ≡ Some bit) × IsMark n enabled run t p bit

-- The simulator has gone through these rows from this power-up, and in each such run its marks are those of the latest cycle, and
-- what is ahead are the latches' marks in the next.
pub record HasMarkedRun (m : MarkedView) (power : List Bool) (rows : List (List Bool)) : Type 0 where
  pub goes : HasRun m.sim power rows
  pub marks : (run : ℕ → ℕ → Bool) → IsRunFrom m.sim.net power rows run → (t p : ℕ) → length rows ≡ t + 1 → p < length m.sim.net.drivers → HasMark m.sim.net m.enabled run t m.marks p p
  pub marks_ahead : (run : ℕ → ℕ → Bool) → IsRunFrom m.sim.net power rows run → (j : ℕ) (l : LatchAt) → slice_get m.sim.net.latches j ≡ Some l →
      HasMark m.sim.net m.enabled run (length rows) m.marks_ahead j l.out.0

-- The bit is the mark of the signal in the latest cycle of the run: whatever power-up and rows the simulator has gone through.
abbrev pub IsLatestMark : MarkedView → ℕ → Bool → Type 0
IsLatestMark m p bit =
    (power : List Bool) (rows : List (List Bool)) (run : ℕ → ℕ → Bool) → HasMarkedRun m power rows → IsRunFrom m.sim.net power rows run →
    IsMark m.sim.net m.enabled run (m.sim.cycles - 1) p bit
