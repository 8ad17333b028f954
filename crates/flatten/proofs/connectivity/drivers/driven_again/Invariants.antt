use Rattle.std.proofs.Common.{◌<◌, ℕ, ◌++◌, take}
use Rattle.flatten.specs.connectivity.Wiring.{wires_of}
use Rattle.flatten.specs.connectivity.Faults.{DrivesAgain}
use Rattle.flatten.specs.connectivity.Tables.{AreSources}
use Rattle.flatten.proofs.connectivity.drivers.driven_again.Given as goal

abbrev pub invariant-loop-place : goal.invariant-loop-place
invariant-loop-place l = record {
  sources : AreSources ((wires_of l.flat).inputs ++ (wires_of l.flat).clocks) (take l.place (wires_of l.flat).outs) l.sources;
  none : (i q : ℕ) → i < l.place → DrivesAgain (wires_of l.flat) i q → ⊥;
}
