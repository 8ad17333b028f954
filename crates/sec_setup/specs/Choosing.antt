-- The choice of the latches that are cut open.
use Rattle.std.specs.Prelude.{◌≡◌, Bool, true, false, [], Result, Ok, Err}
use Rattle.circuit_theory.specs.declared.Mode.{Mode}
use Rattle.circuit_theory.specs.declared.Mode.TheVariants.{Plain}
use Rattle.circuit_theory.specs.declared.Side.TheVariants.{A, B}
use Rattle.sec_setup.specs.ports.flat_net.View.{NetView, circuit_of}
use Rattle.sec_setup.specs.cut_points.Common.{common_names}
use Rattle.sec_setup.specs.cut_points.Exposed.{IsFreeWithout, IsToldCycle}
use Rattle.sec_setup.specs.declared.cut_points.exposed.Exposure.{Exposure}
use Rattle.sec_setup.specs.declared.error.SetupError.{SetupError}
use Rattle.sec_setup.specs.declared.error.SetupError.TheVariants as refused
use Rattle.sec_setup.specs.Cuts.{AreCutOpenIn}
use Rattle.sec_setup.specs.Cycles.{IsAcyclicIn, AreBrokenIn}

-- The latches that are cut open in this mode. None is where none is to be, and then no latch lies on a cycle.
pub record IsChosenIn (mode : Mode) (a b : NetView) (expose : Bool) (e : Exposure) : Type 0 where
  pub cut_open : AreCutOpenIn mode a b e
  pub closed : expose ≡ false → e.names ≡ []
  pub broken : AreBrokenIn mode a b expose

-- The cycle that is refused: one of A, or else one of B; where latches may be cut open, one that no latch breaks that both circuits name.
abbrev pub RefusesCycleIn : Mode → NetView → NetView → Bool → SetupError → Type 0
RefusesCycleIn mode a b expose (refused.Interface name) = ⊥
RefusesCycleIn mode a b expose (refused.Cyclic A names) = (expose ≡ false) × IsToldCycle mode a [] names
RefusesCycleIn mode a b expose (refused.Cyclic B names) = (expose ≡ false) × IsAcyclicIn mode a × IsToldCycle mode b [] names
RefusesCycleIn mode a b expose (refused.Unpaired A names) = (expose ≡ true) × IsToldCycle mode a (common_names (circuit_of a) (circuit_of b)) names
RefusesCycleIn mode a b expose (refused.Unpaired B names) =
    (expose ≡ true) × IsFreeWithout mode a (common_names (circuit_of a) (circuit_of b)) × IsToldCycle mode b (common_names (circuit_of a) (circuit_of b)) names
RefusesCycleIn mode a b expose refused.NoMemory = Unit {0}

-- the choice, or the cycle that is refused
abbrev pub ChosenIn : Mode → NetView → NetView → Bool → Result Exposure SetupError → Type 0
ChosenIn mode a b expose (Ok e) = IsChosenIn mode a b expose e
ChosenIn mode a b expose (Err error) = RefusesCycleIn mode a b expose error

-- both in the plain mode
abbrev pub IsChosen : NetView → NetView → Bool → Exposure → Type 0
IsChosen a b expose e = IsChosenIn Plain a b expose e

abbrev pub Chosen : NetView → NetView → Bool → Result Exposure SetupError → Type 0
Chosen a b expose result = ChosenIn Plain a b expose result
