-- Cycles of latches and the choice of the latches that are cut open, in the event mode, where self-edges of enabled latches don't count.
use Rattle.std.specs.Prelude.{Bool}
use Rattle.circuit_theory.specs.declared.Mode.TheVariants.{Event}
use Rattle.flat_net.specs.View.{NetView}
use Rattle.sec_setup.specs.declared.cut_points.exposed.Exposure.{Exposure}
use Rattle.sec_setup.specs.declared.error.SetupError.{SetupError}
use Rattle.sec_setup.specs.Choosing.{RefusesCycleIn}
use Rattle.sec_setup.specs.Cuts.{AreCutOpenIn}
use Rattle.sec_setup.specs.Cycles.{AreBrokenIn, IsAcyclicIn}

-- no latch lies on a cycle
abbrev pub IsAcyclic : NetView → Type 0
IsAcyclic n = IsAcyclicIn Event n

-- no latch of either net lies on a cycle, where latches may be cut open without those that both circuits name
abbrev pub HaveNoCycles : NetView → NetView → Bool → Type 0
HaveNoCycles a b expose = AreBrokenIn Event a b expose

-- the latches that are cut open are a minimal cut: their names, in A's order, with their positions in both nets
abbrev pub AreOpened : NetView → NetView → Exposure → Type 0
AreOpened a b e = AreCutOpenIn Event a b e

-- the cycle that is refused: one of A, or else one of B; where latches may be cut open, one that no latch breaks that both circuits name
abbrev pub RefusesCycle : NetView → NetView → Bool → SetupError → Type 0
RefusesCycle a b expose error = RefusesCycleIn Event a b expose error
