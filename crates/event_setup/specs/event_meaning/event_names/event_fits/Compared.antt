-- What a comparison in the event form answers.
use Rattle.std.specs.Prelude.{◌≡◌, ◌⊎◌, ℕ, Bool, List, map, Some, Result, Ok, Err}
use Rattle.circuit_theory.specs.declared.Mode.{Mode}
use Rattle.circuit_theory.specs.declared.Mode.TheVariants.{Plain, Event}
use Rattle.circuit_theory.specs.declared.Side.{Side}
use Rattle.circuit_theory.specs.Interface.{first_mismatch}
use Rattle.flat_net.specs.Sound.{IsSound}
use Rattle.flat_net.specs.View.{NetView, circuit_of, ports_of}
use Rattle.sec_setup.specs.declared.ports.pairs.SignalPair.{SignalPair}
use Rattle.sec_setup.specs.ports.Pairs.{named_pairs, places_of}
use Rattle.witness_report.specs.declared.witness.Witness.{Witness}
use Rattle.sec_base.specs.declared.settings.Settings.{Settings}
use Rattle.obligations.specs.declared.outcome.verdict.Outcome.{Outcome}
use Rattle.obligations.specs.declared.outcome.verdict.Unshown.{Unshown}
use Rattle.obligations.specs.declared.outcome.verdict.Verdict.TheVariants as verdict
use Rattle.obligations.specs.declared.outcome.verdict.Why.TheVariants as why
use Rattle.plain_check.specs.under_base.compare_base.SetupError.TheVariants as unset
use Rattle.plain_check.specs.under_base.compare_base.Matching.{InterfacesMatch}
use Rattle.event_form.specs.event_findings.unshown_pairs.Refused.{IsTooMany, IsTooHeavy}
use Rattle.event_nodes.specs.View.{EventCircuitView}
use Rattle.event_setup.specs.Choosing.{RefusesCycle}
use Rattle.event_setup.specs.Recovered.{AreKnown, RecoversBoth}
use Rattle.event_setup.specs.declared.error.RecoveryError.TheVariants as unknown
use Rattle.plain_check.specs.declared.under_base.compare_base.error.CompareError.{CompareError}
use Rattle.plain_check.specs.declared.under_base.compare_base.error.CompareError.TheVariants as refused
use Rattle.plain_check.specs.under_base.compare_base.Compared.{Compared}
use Rattle.plain_check.specs.under_base.compare_base.Says.{SaysEqual, SaysDifferent, SaysNotShown}
use Rattle.event_setup.specs.event_meaning.event_names.event_fits.Circuits.{AreReached}
use Rattle.event_setup.specs.event_meaning.event_names.event_fits.Fitting.{EventOutcomeFits}
use Rattle.event_setup.specs.event_meaning.event_names.event_fits.Shown.{IsFramed}
use Rattle.event_setup.specs.event_meaning.event_names.event_fits.Totals.{IsMapMade, PairsReachTooMany, PairsWeighTooMuch}

-- The interfaces match, and the outcome fits the circuits. Equal, different and not shown say what they say of the circuits. Both nets keep what each
-- net keeps.
pub record IsComparedInEvents (a b : NetView) (settings : Settings) (o : Outcome) : Type 0 where
  pub left_sound : IsSound a
  pub right_sound : IsSound b
  pub matches : InterfacesMatch a b
  pub fits : EventOutcomeFits a b settings.expose settings.conflicts o
  pub equal : o.verdict ≡ verdict.Equal → SaysEqual Event o (circuit_of a) (circuit_of b)
  pub different : (w : Witness) → o.verdict ≡ verdict.Different w → SaysDifferent Event w (circuit_of a) (circuit_of b)
  pub not_shown : (w : Witness) → o.verdict ≡ verdict.NotShown (why.Cut w) → SaysNotShown Event o.exposed w (circuit_of a) (circuit_of b)
  pub unshown : (u : Unshown) → o.verdict ≡ verdict.NotShown (why.Events u) → IsFramed a b settings.expose o u

-- the class map can't be made of the circuits that are reached
abbrev pub StopsAtMap : NetView → NetView → Bool → (EventCircuitView → EventCircuitView → Type 0) → Type 0
StopsAtMap a b expose Stops = (names : List (List ℕ)) × (left : EventCircuitView) × (right : EventCircuitView) × AreReached a b expose names left right × Stops left right

-- it is made, and the pairs that are to be compared can't be unfolded
pub record StopsAtPairs (a b : NetView) (expose : Bool) (Stops : (left right : EventCircuitView) → IsMapMade left right → List SignalPair → Type 0) : Type 0 where
  pub names : List (List ℕ)
  pub left : EventCircuitView
  pub right : EventCircuitView
  pub reached : AreReached a b expose names left right
  pub made : IsMapMade left right
  pub pairs : List SignalPair
  pub listed : map places_of pairs ≡ named_pairs names (circuit_of a) (circuit_of b)
  pub stops : Stops left right made pairs

-- The circuit of this side is too large: the cone of a latch that is in its own cone; the enables up to some latch; or these and the signals up to
-- some pair.
abbrev pub AreTooLargeInEvents : NetView → NetView → Settings → Side → Type 0
AreTooLargeInEvents a b settings side =
    RecoversBoth a b settings.conflicts (Err (unknown.TooLarge side))
    ⊎ (StopsAtMap a b settings.expose (λ left right. IsTooHeavy left right side) ⊎ StopsAtPairs a b settings.expose (PairsWeighTooMuch side))

-- Both circuits have too many events: more than 30,000 enabled latches, more than 500 classes or more than 10,000 event nodes of the enables up to
-- some latch; or more event nodes of these and the signals up to some pair.
abbrev pub HaveTooManyEvents : NetView → NetView → Settings → Type 0
HaveTooManyEvents a b settings = StopsAtMap a b settings.expose IsTooMany ⊎ StopsAtPairs a b settings.expose PairsReachTooMany

-- The outcome, or the first refusal: the interface; the cone of a latch of A, of B, that is in its own; a cycle of A, of B; where latches are to be
-- cut open a cycle of A, of B that no common latch breaks; what passes its number first of the latches in the order of the class map, and then of
-- the pairs. Nothing is refused for an assumption: there is none.
abbrev pub ComparedInEvents : NetView → NetView → Settings → Result Outcome CompareError → Type 0
ComparedInEvents a b settings (Ok o) = IsComparedInEvents a b settings o
ComparedInEvents a b settings (Err (refused.Interface name)) = first_mismatch (ports_of a) (ports_of b) ≡ Some name
ComparedInEvents a b settings (Err (refused.Cyclic side names)) = InterfacesMatch a b × AreKnown a × AreKnown b × RefusesCycle a b settings.expose (unset.Cyclic side names)
ComparedInEvents a b settings (Err (refused.Unpaired side names)) = InterfacesMatch a b × AreKnown a × AreKnown b × RefusesCycle a b settings.expose (unset.Unpaired side names)
ComparedInEvents a b settings (Err (refused.TooLarge side)) = InterfacesMatch a b × AreTooLargeInEvents a b settings side
ComparedInEvents a b settings (Err refused.TooManyEvents) = InterfacesMatch a b × HaveTooManyEvents a b settings
ComparedInEvents a b settings (Err (refused.Assume fault)) = ⊥
ComparedInEvents a b settings (Err (refused.Vacuous by)) = ⊥
ComparedInEvents a b settings (Err refused.NoMemory) = Unit {0}

-- what a comparison answers in a mode
abbrev pub ComparedIn : Mode → NetView → NetView → Settings → Result Outcome CompareError → Type 0
ComparedIn Plain a b settings r = Compared a b settings r
ComparedIn Event a b settings r = ComparedInEvents a b settings r
