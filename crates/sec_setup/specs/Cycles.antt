-- Cycles of latches in the nets of a comparison.
use Rattle.std.specs.Prelude.{Bool, true, false, List, [], ℕ, Option, Some, None}
use Rattle.circuit_theory.specs.declared.Mode.{Mode}
use Rattle.circuit_theory.specs.declared.Mode.TheVariants.{Plain}
use Rattle.circuit_theory.specs.Depth.{HasCycle}
use Rattle.circuit_theory.specs.Run.{NoneEnabled}
use Rattle.sec_setup.specs.ports.flat_net.View.{NetView, circuit_of}
use Rattle.sec_setup.specs.cut_points.Common.{common_names}
use Rattle.sec_setup.specs.cut_points.Exposed.{IsFreeWithout, IsToldCycle}

-- no cycle is in the latch graph
abbrev pub IsAcyclic : NetView → Type 0
IsAcyclic n = HasCycle (circuit_of n) NoneEnabled [] → ⊥

-- no latch lies on a cycle in this mode
abbrev pub IsAcyclicIn : Mode → NetView → Type 0
IsAcyclicIn mode n = IsFreeWithout mode n []

-- the cycle, if any, that is told of a latch graph
abbrev pub IsCycleOf : Mode → NetView → Option (List (List ℕ)) → Type 0
IsCycleOf mode n None = IsAcyclicIn mode n
IsCycleOf mode n (Some names) = IsToldCycle mode n [] names

-- no latch is to be cut open, and no latch lies on a cycle; or none lies on one without the latches that both circuits name
abbrev pub AreBrokenIn : Mode → NetView → NetView → Bool → Type 0
AreBrokenIn mode a b false = IsAcyclicIn mode a × IsAcyclicIn mode b
AreBrokenIn mode a b true = IsFreeWithout mode a (common_names (circuit_of a) (circuit_of b)) × IsFreeWithout mode b (common_names (circuit_of a) (circuit_of b))

-- the same in the plain mode
abbrev pub AreBroken : NetView → NetView → Bool → Type 0
AreBroken a b expose = AreBrokenIn Plain a b expose
