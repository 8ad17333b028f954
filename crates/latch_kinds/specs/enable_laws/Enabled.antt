-- Which latches count as enabled, in each of the ways in which contracts say it.
use Rattle.std.specs.Prelude.{ℕ, ◌↔◌, Bool, List, Contains}
use Rattle.circuit_theory.specs.declared.Mode.{Mode}
use Rattle.circuit_theory.specs.Circuit.{Circuit, IsLatch}
use Rattle.circuit_theory.specs.Agree.{EnabledIn}
use Rattle.flat_net.specs.declared.parts.LatchAt.{LatchAt}
use Rattle.signal_graph.specs.inner_cone.latch_cone.Cones.{IsMarkedBy}

-- by a mode, by the places of the latches, or by a bit for each latch of a list
pub data Enabling : Type 0 where
  in_mode : Mode → Enabling
  at_places : List ℕ → Enabling
  by_bits : List LatchAt → List Bool → Enabling

-- the latch at this place counts as enabled
abbrev pub Counts : Enabling → Circuit ℕ → ℕ → Type 0
Counts (Enabling.in_mode mode) c u = EnabledIn mode c u
Counts (Enabling.at_places places) c u = Contains places u
Counts (Enabling.by_bits latches bits) c u = IsMarkedBy latches bits u

-- the same latches of the circuit count as enabled
abbrev pub CountTheSame : Circuit ℕ → Enabling → Enabling → Type 0
CountTheSame c one other = (name : List ℕ) (u next : ℕ) → IsLatch c name u next → Counts one c u ↔ Counts other c u
