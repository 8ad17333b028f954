-- What each net keeps.
use Rattle.std.specs.Prelude.{◌≡◌, ◌^◌, ◌<◌, ◌≤◌, ℕ, length, slice_get, Some, All, Contains}
use Rattle.circuit_theory.specs.Cover.{Cover}
use Rattle.sec_base.specs.Cover.{IsCoverSound}
use Rattle.base_tables.specs.Table.{AreDistinct}
use Rattle.flat_net.specs.declared.signals.Signal.{Signal}
use Rattle.flat_net.specs.declared.parts.Port.{Port}
use Rattle.flat_net.specs.declared.parts.Gate.{Gate}
use Rattle.flat_net.specs.declared.parts.LatchAt.{LatchAt}
use Rattle.flat_net.specs.declared.parts.Driver.{Driver}
use Rattle.flat_net.specs.declared.parts.Driver.TheVariants as driver
use Rattle.flat_net.specs.View.{NetView}

-- the driver that the table names drives the signal
abbrev pub Drives : NetView → ℕ → Driver → Type 0
Drives n s (driver.Input i) = (port : Port) × (slice_get n.inputs i ≡ Some port) × (port.signal.0 ≡ s)
Drives n s (driver.Gate j) = (g : Gate) × (slice_get n.gates j ≡ Some g) × (g.out.0 ≡ s)
Drives n s (driver.Latch j) = (l : LatchAt) × (slice_get n.latches j ≡ Some l) × (l.out.0 ≡ s)

-- the input drives its signal, which has its name
pub record IsInputOf (n : NetView) (i : ℕ) (port : Port) : Type 0 where
  pub owner : slice_get n.drivers port.signal.0 ≡ Some (driver.Input i)
  pub named : slice_get n.names port.signal.0 ≡ Some port.name

-- the gate drives its signal and reads lower signals alone; its cover has a column for each fan-in
pub record IsGateOf (n : NetView) (j : ℕ) (g : Gate) : Type 0 where
  pub owner : slice_get n.drivers g.out.0 ≡ Some (driver.Gate j)
  pub above : All (λ f. f.0 < g.out.0) g.fanins
  pub cover : Cover
  pub covered : slice_get n.covers g.cover ≡ Some cover
  pub width : cover.width ≡ length g.fanins

-- the latch drives its signal, which has its name, and takes over a signal of the net
pub record IsLatchOf (n : NetView) (j : ℕ) (l : LatchAt) : Type 0 where
  pub owner : slice_get n.drivers l.out.0 ≡ Some (driver.Latch j)
  pub named : slice_get n.names l.out.0 ≡ Some l.name
  pub within : l.next.0 < length n.drivers

-- Each signal has one driver and a name of its own, the gates stand in the order of their signals and read lower signals
-- alone, and all numbers are in range.
pub record IsSound (n : NetView) : Type 0 where
  pub inputs : (i : ℕ) (port : Port) → slice_get n.inputs i ≡ Some port → IsInputOf n i port
  pub gates : (j : ℕ) (g : Gate) → slice_get n.gates j ≡ Some g → IsGateOf n j g
  pub ordered : (i j : ℕ) (g h : Gate) → i < j → slice_get n.gates i ≡ Some g → slice_get n.gates j ≡ Some h → g.out.0 < h.out.0
  pub latches : (j : ℕ) (l : LatchAt) → slice_get n.latches j ≡ Some l → IsLatchOf n j l
  pub drivers : (s : ℕ) (d : Driver) → slice_get n.drivers s ≡ Some d → Drives n s d
  pub outputs : All (λ port. port.signal.0 < length n.drivers) n.outputs
  pub covers : All IsCoverSound n.covers
  pub named : length n.names ≡ length n.drivers
  pub distinct : AreDistinct n.names
  pub few : length n.drivers < 2 ^ 32
  pub few_inputs : length n.inputs ≤ length n.drivers
  pub few_gates : length n.gates ≤ length n.drivers
  pub few_latches : length n.latches ≤ length n.drivers
  pub few_covers : length n.covers < 2 ^ 32

-- each gate stands behind the gates that drive its fan-ins
abbrev pub IsInOrder : NetView → Type 0
IsInOrder n =
    (j k : ℕ) (g : Gate) (f : Signal) → slice_get n.gates j ≡ Some g → Contains g.fanins f → slice_get n.drivers f.0 ≡ Some (driver.Gate k) → k < j
