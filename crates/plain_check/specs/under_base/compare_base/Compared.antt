-- What a comparison answers.
use Rattle.std.specs.Prelude.{◌≡◌, ℕ, Bool, true, false, List, [], Some, Result, Ok, Err}
use Rattle.circuit_theory.specs.declared.Mode.TheVariants.{Plain}
use Rattle.circuit_theory.specs.declared.Side.{Side}
use Rattle.circuit_theory.specs.declared.Side.TheVariants.{A, B}
use Rattle.circuit_theory.specs.Interface.{first_mismatch}
use Rattle.flat_net.specs.Sound.{IsSound}
use Rattle.flat_net.specs.View.{NetView, circuit_of, ports_of}
use Rattle.witness_report.specs.declared.witness.Witness.{Witness}
use Rattle.sec_base.specs.declared.settings.Settings.{Settings}
use Rattle.obligations.specs.declared.outcome.verdict.Verdict.TheVariants as verdict
use Rattle.obligations.specs.declared.outcome.verdict.Why.TheVariants as why
use Rattle.obligations.specs.declared.outcome.verdict.Outcome.{Outcome}
use Rattle.obligations.specs.declared.outcome.verdict.ResetWitness.{ResetWitness}
use Rattle.circuit_laws.specs.reset_laws.Reset.{AgreeFromReset}
use Rattle.sec_setup.specs.cut_points.Common.{common_names}
use Rattle.sec_setup.specs.cut_points.Exposed.{IsFreeWithout, IsToldCycle}
use Rattle.sec_setup.specs.declared.error.SetupError.{SetupError}
use Rattle.sec_setup.specs.declared.error.SetupError.TheVariants as unset
use Rattle.outcome_fits.specs.Cuts.{IsChoice, StandInOrder}
use Rattle.sec_setup.specs.Cycles.{IsAcyclic, AreBroken}
use Rattle.sec_setup.specs.Matching.{InterfacesMatch}
use Rattle.plain_check.specs.declared.under_base.compare_base.error.CompareError.{CompareError}
use Rattle.plain_check.specs.declared.under_base.compare_base.error.CompareError.TheVariants as refused
use Rattle.outcome_fits.specs.Fitting.{IsLight, IsCutOver, IsCutLight, OutcomeFits}
use Rattle.plain_check.specs.under_base.compare_base.FromReset.{IsLeftLight, IsRightLight, AreTooLargeFromReset, ResetOutcomeFits}
use Rattle.plain_check.specs.under_base.compare_base.Says.{SaysEqual, SaysDifferent, SaysNotShown, MakesResetsDiffer}

-- The interfaces match, the outcome fits the circuits, and both unfoldings are light. Equal, different and not shown say what they
-- say of the circuits. Both nets keep what each net keeps.
pub record IsCompared (a b : NetView) (settings : Settings) (o : Outcome) : Type 0 where
  pub left_sound : IsSound a
  pub right_sound : IsSound b
  pub matches : InterfacesMatch a b
  pub fits : OutcomeFits a b settings.expose settings.conflicts o
  pub left_light : IsLight fits.left_cut
  pub right_light : IsLight fits.right_cut
  pub equal : o.verdict ≡ verdict.Equal → SaysEqual Plain o (circuit_of a) (circuit_of b)
  pub different : (w : Witness) → o.verdict ≡ verdict.Different w → SaysDifferent Plain w (circuit_of a) (circuit_of b)
  pub not_shown : (w : Witness) → o.verdict ≡ verdict.NotShown (why.Cut w) → SaysNotShown Plain o.exposed w (circuit_of a) (circuit_of b)

-- The same where runs begin with the latches' initial values. No latch of either circuit lies on a cycle, also where no output reads it.
-- Equal says that any two such runs with equal inputs have equal outputs in every cycle.
pub record IsComparedFromReset (a b : NetView) (settings : Settings) (o : Outcome) : Type 0 where
  pub left_sound : IsSound a
  pub right_sound : IsSound b
  pub matches : InterfacesMatch a b
  pub left_acyclic : IsAcyclic a
  pub right_acyclic : IsAcyclic b
  pub fits : ResetOutcomeFits a b settings.conflicts o
  pub left_light : IsLeftLight a b
  pub right_light : IsRightLight a b
  pub equal : o.verdict ≡ verdict.Equal → AgreeFromReset (circuit_of a) (circuit_of b)
  pub different : (w : ResetWitness) → o.verdict ≡ verdict.DifferentFrom w → MakesResetsDiffer (circuit_of a) (circuit_of b) w

-- what is said of a comparison that is made over all power-ups, and of one that is made from the latches' initial values
abbrev pub ByReset : Bool → Type 0 → Type 0 → Type 0
ByReset false always from_reset = always
ByReset true always from_reset = from_reset

-- With the latches of a choice of names cut out, which stand in A's order, a circuit of one of the sides is too large: A, or else B.
pub data AreTooLarge (a b : NetView) (expose : Bool) : Side → Type 0 where
  left : {names : List (List ℕ)} → IsChoice a b expose names → StandInOrder a names → IsCutOver names (circuit_of a) → AreTooLarge a b expose A
  right : {names : List (List ℕ)} → IsChoice a b expose names → StandInOrder a names → IsCutLight names (circuit_of a) → IsCutOver names (circuit_of b) → AreTooLarge a b expose B

-- The outcome, or the first refusal: the interface; a cycle of A, of B; where latches are to be cut open a cycle of A, of B that no
-- common latch breaks; A's size, B's size. Nothing is refused for its events or for an assumption: there are none.
abbrev pub Compared : NetView → NetView → Settings → Result Outcome CompareError → Type 0
Compared a b settings (Ok o) = ByReset settings.reset (IsCompared a b settings o) (IsComparedFromReset a b settings o)
Compared a b settings (Err (refused.Interface name)) = first_mismatch (ports_of a) (ports_of b) ≡ Some name
Compared a b settings (Err (refused.Cyclic A names)) = InterfacesMatch a b × (settings.expose ≡ false) × IsToldCycle Plain a [] names
Compared a b settings (Err (refused.Cyclic B names)) = InterfacesMatch a b × (settings.expose ≡ false) × IsAcyclic a × IsToldCycle Plain b [] names
Compared a b settings (Err (refused.Unpaired A names)) = InterfacesMatch a b × (settings.expose ≡ true) × IsToldCycle Plain a (common_names (circuit_of a) (circuit_of b)) names
Compared a b settings (Err (refused.Unpaired B names)) =
    InterfacesMatch a b × (settings.expose ≡ true) × IsFreeWithout Plain a (common_names (circuit_of a) (circuit_of b)) × IsToldCycle Plain b (common_names (circuit_of a) (circuit_of b)) names
Compared a b settings (Err (refused.TooLarge side)) = InterfacesMatch a b × AreBroken a b settings.expose × ByReset settings.reset (AreTooLarge a b settings.expose side) (AreTooLargeFromReset a b side)
Compared a b settings (Err refused.TooManyEvents) = ⊥
Compared a b settings (Err (refused.Assume fault)) = ⊥
Compared a b settings (Err (refused.Vacuous by)) = ⊥
Compared a b settings (Err refused.NoMemory) = Unit {0}

-- the interfaces don't match, and this is the first name; no other refusal comes of it
abbrev pub InterfaceFails : NetView → NetView → CompareError → Type 0
InterfaceFails a b (refused.Interface name) = first_mismatch (ports_of a) (ports_of b) ≡ Some name
InterfaceFails a b refused.NoMemory = Unit {0}
InterfaceFails a b other = ⊥

-- why circuits that can't be set up aren't compared
abbrev pub refusal_of : SetupError → CompareError
refusal_of (unset.Interface name) = refused.Interface name
refusal_of (unset.Cyclic side names) = refused.Cyclic side names
refusal_of (unset.Unpaired side names) = refused.Unpaired side names
refusal_of unset.NoMemory = refused.NoMemory
