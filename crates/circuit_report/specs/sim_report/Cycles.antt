-- How the rows of a stimulus are fed to the simulator, and what is shown of a cycle.
use Rattle.std.specs.Prelude.{◌≡◌, ℕ, ◌-◌, Bool, false, List, ◌++◌, length, slice_get, slice_index_or, map, Some}
use Rattle.flat_net.specs.declared.parts.Port.{Port}
use Rattle.flat_net.specs.View.{NetView}
use Rattle.cycle_sim.specs.Runs.{IsRunFrom}
use Rattle.signal_graph.specs.inner_cone.latch_cone.Cones.{IsMarkedBy}
use Rattle.cycle_sim.specs.View.{SimView, MarkedView, IsLatest, IsLatestMark}
use Rattle.circuit_report.specs.sim_report.Report.{Shown, cycle_line, cycle_lines, IsShown}

-- for each input the column of its name
pub record AreColumns (n : NetView) (names : List (List ℕ)) (columns : List ℕ) : Type 0 where
  pub each : length columns ≡ length n.inputs
  pub named : (i k : ℕ) (port : Port) → slice_get n.inputs i ≡ Some port → slice_get columns i ≡ Some k → slice_get names k ≡ Some port.name

-- a row's bits in the order of the columns
abbrev pub reordered : List ℕ → List Bool → List Bool
reordered columns row = map (λ k. slice_index_or row k false) columns

-- the bits are the values of the outputs in the latest cycle
pub record AreLatest (s : SimView) (bits : List Bool) : Type 0 where
  pub each : length bits ≡ length s.net.outputs
  pub right : (i : ℕ) (port : Port) (bit : Bool) → slice_get s.net.outputs i ≡ Some port → slice_get bits i ≡ Some bit → IsLatest s port.signal.0 bit

-- the bits are the marks of the outputs in the latest cycle
pub record AreMarks (m : MarkedView) (bits : List Bool) : Type 0 where
  pub each : length bits ≡ length m.sim.net.outputs
  pub right : (i : ℕ) (port : Port) (bit : Bool) → slice_get m.sim.net.outputs i ≡ Some port → slice_get bits i ≡ Some bit → IsLatestMark m port.signal.0 bit

-- a line of the latest cycle is put behind the text
pub record PutsLatest (m : MarkedView) (old new : List ℕ) : Type 0 where
  pub shown : Shown
  pub values : AreLatest m.sim shown.values
  pub marks : AreMarks m shown.marks
  pub text_is : new ≡ old ++ cycle_line (m.sim.cycles - 1) shown

-- the lines of the cycles of the run from this power-up by these rows are put behind the text, where the latches whose bits are
-- set count as enabled
pub record PutsCycles (n : NetView) (enabled power : List Bool) (rows : List (List Bool)) (old new : List ℕ) : Type 0 where
  pub cycles : List Shown
  pub each : length cycles ≡ length rows
  pub text_is : new ≡ old ++ cycle_lines 0 cycles
  pub shown : (run : ℕ → ℕ → Bool) → IsRunFrom n power rows run → (t : ℕ) (shown : Shown) → slice_get cycles t ≡ Some shown → IsShown n (IsMarkedBy n.latches enabled) t run shown
