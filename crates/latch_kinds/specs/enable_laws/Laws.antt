-- What depends on nothing but which latches count as enabled.
use Rattle.std.specs.Prelude.{ℕ, ◌↔◌, Bool, List}
use Rattle.circuit_theory.specs.declared.Mode.{Mode}
use Rattle.circuit_theory.specs.Circuit.{Circuit}
use Rattle.circuit_theory.specs.Depth.{HasCycle, IsCycle, IsDepth, HasNoDepth}
use Rattle.circuit_theory.specs.Run.{Marked}
use Rattle.flat_net.specs.View.{NetView, circuit_of}
use Rattle.signal_graph.specs.inner_cone.latch_cone.Cones.{MarksEnabled}
use Rattle.signal_graph.specs.Graph.{GraphView, IsGraphIn}
use Rattle.latch_kinds.specs.enable_laws.Enabled.{Enabling, Counts, CountTheSame}

-- The depth of a place, and that it has none.
abbrev pub DepthsDependOnEnabled : Type 0
DepthsDependOnEnabled = (c : Circuit ℕ) (one other : Enabling) → CountTheSame c one other → (p : ℕ) →
    ((d : ℕ) → IsDepth c (Counts one c) p d ↔ IsDepth c (Counts other c) p d) × (HasNoDepth c (Counts one c) p ↔ HasNoDepth c (Counts other c) p)

-- Whether the latch graph has a cycle without some latches, and what a cycle is.
abbrev pub CyclesDependOnEnabled : Type 0
CyclesDependOnEnabled = (c : Circuit ℕ) (one other : Enabling) → CountTheSame c one other → (removed : List (List ℕ)) →
    (HasCycle c (Counts one c) removed ↔ HasCycle c (Counts other c) removed) × ((latches : List ℕ) → IsCycle c (Counts one c) removed latches ↔ IsCycle c (Counts other c) removed latches)

-- The marks of a run.
abbrev pub MarksDependOnEnabled : Type 0
MarksDependOnEnabled = (c : Circuit ℕ) (one other : Enabling) → CountTheSame c one other → (run : ℕ → ℕ → Bool) (t p : ℕ) → Marked c (Counts one c) run t p ↔ Marked c (Counts other c) run t p

-- A graph of a mode skips the latches of the mode.
abbrev pub GraphsCountTheirLatches : Type 0
GraphsCountTheirLatches = (mode : Mode) (n : NetView) (g : GraphView) → IsGraphIn mode n g → CountTheSame (circuit_of n) (Enabling.in_mode mode) (Enabling.by_bits g.latches g.skipped)

-- So do bits that mark the enabled latches.
abbrev pub BitsCountTheirLatches : Type 0
BitsCountTheirLatches = (mode : Mode) (n : NetView) (bits : List Bool) → MarksEnabled mode n bits → CountTheSame (circuit_of n) (Enabling.in_mode mode) (Enabling.by_bits n.latches bits)
