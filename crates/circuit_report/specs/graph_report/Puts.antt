-- What the parts of the report put behind a text.
use Rattle.std.specs.Prelude.{◌≡◌, ℕ, List, ◌++◌, map, Option}
use Rattle.std.specs.List.{flat_map}
use Rattle.circuit_theory.specs.declared.Mode.{Mode}
use Rattle.circuit_theory.specs.Circuit.{Named}
use Rattle.flat_net.specs.declared.parts.LatchAt.{LatchAt}
use Rattle.flat_net.specs.declared.parts.Port.{Port}
use Rattle.flat_net.specs.View.{NetView, named, circuit_of}
use Rattle.circuit_report.specs.graph_report.Report.{Measured, MeasuredLatch, IsMeasured, IsMeasuredLatch, TellOf, IsFound, latch_signal, latch_line, output_line, cycle_line}

-- a line for each of these signals
pub record PutsLines {X : Type 0} (signal_of : X → Named ℕ) (Right : X → Type 0) (line : X → List ℕ) (signals : List (Named ℕ)) (old new : List ℕ) : Type 0 where
  pub items : List X
  pub tell : TellOf signal_of Right signals items
  pub text_is : new ≡ old ++ flat_map line items

-- the lines of these latches
abbrev pub PutsLatches : Mode → NetView → List LatchAt → List ℕ → List ℕ → Type 0
PutsLatches mode n latches old new = PutsLines (λ (l : MeasuredLatch). l.measured.signal) (IsMeasuredLatch mode (circuit_of n)) latch_line (map latch_signal latches) old new

-- the lines of these outputs
abbrev pub PutsOutputs : Mode → NetView → List Port → List ℕ → List ℕ → Type 0
PutsOutputs mode n outputs old new = PutsLines (λ (m : Measured). m.signal) (IsMeasured mode (circuit_of n)) output_line (map named outputs) old new

-- the line of a cycle, or that there is none
pub record PutsCycle (mode : Mode) (n : NetView) (old new : List ℕ) : Type 0 where
  pub cycle : Option (List LatchAt)
  pub found : IsFound mode n cycle
  pub text_is : new ≡ old ++ cycle_line cycle
