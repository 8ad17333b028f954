-- What a comparison in the event form under an assumption answers.
use Rattle.std.specs.Prelude.{◌≡◌, ◌⊎◌, Some, Result, Ok, Err}
use Rattle.circuit_theory.specs.declared.Mode.{Mode}
use Rattle.circuit_theory.specs.declared.Mode.TheVariants.{Plain, Event}
use Rattle.circuit_theory.specs.Interface.{first_mismatch}
use Rattle.flat_net.specs.Sound.{IsSound}
use Rattle.flat_net.specs.View.{NetView, circuit_of, ports_of}
use Rattle.witness_report.specs.declared.witness.Witness.{Witness}
use Rattle.sec_base.specs.declared.settings.Settings.{Settings}
use Rattle.obligations.specs.declared.outcome.verdict.Outcome.{Outcome}
use Rattle.obligations.specs.declared.outcome.verdict.Unshown.{Unshown}
use Rattle.obligations.specs.declared.outcome.verdict.Verdict.TheVariants as verdict
use Rattle.obligations.specs.declared.outcome.verdict.Why.TheVariants as why
use Rattle.sec_setup.specs.Matching.{InterfacesMatch}
use Rattle.event_setup.specs.event_meaning.event_names.event_fits.Compared.{ComparedInEvents}
use Rattle.plain_check.specs.declared.under_base.compare_base.error.CompareError.{CompareError}
use Rattle.plain_check.specs.declared.under_base.compare_base.error.CompareError.TheVariants as refused
use Rattle.plain_check.specs.under_base.Taken.{assumed_by, IsFirstFault, IsVacuousBy}
use Rattle.plain_check.specs.under_base.Met.{shared_by, IsMet, IsAssumptionLimit}
use Rattle.plain_check.specs.under_base.Compared.{ComparedUnder}
use Rattle.event_setup.specs.event_meaning.event_meaning_under.Fitted.{EventOutcomeFitsUnder}
use Rattle.event_setup.specs.event_meaning.event_meaning_under.Framed.{IsFramedUnder}
use Rattle.event_setup.specs.event_meaning.event_meaning_under.Saying.{SaysEqualUnder, SaysDifferentUnder, SaysNotShownUnder}
use Rattle.event_setup.specs.event_meaning.event_meaning_under.Heavy.{IsTooLargeForEvents}

-- C is taken as an assumption, and the outcome has the name of its output and fits the circuits under it. Equal, different and not shown say what they
-- say of the circuits under the assumption. Both nets keep what each net keeps.
pub record IsComparedInEventsUnder (a b c : NetView) (settings : Settings) (o : Outcome) : Type 0 where
  pub left_sound : IsSound a
  pub right_sound : IsSound b
  pub met : IsMet a b c
  pub assumed : o.assumed ≡ Some met.assumed.shape.output.name
  pub fits : EventOutcomeFitsUnder (assumed_by met.assumed) met.assumed.weight met.row a b settings.expose settings.conflicts o
  pub equal : o.verdict ≡ verdict.Equal → SaysEqualUnder Event (assumed_by met.assumed) o (circuit_of a) (circuit_of b)
  pub different : (w : Witness) → o.verdict ≡ verdict.Different w → SaysDifferentUnder (assumed_by met.assumed) w (circuit_of a) (circuit_of b)
  pub not_shown : (w : Witness) → o.verdict ≡ verdict.NotShown (why.Cut w) → SaysNotShownUnder (assumed_by met.assumed) o.exposed w (circuit_of a) (circuit_of b)
  pub unshown : (u : Unshown) → o.verdict ≡ verdict.NotShown (why.Events u) → IsFramedUnder (assumed_by met.assumed) a b settings.expose o u

-- The outcome, or the limit of the assumption's query; or the first refusal: the interface; C's first fault; that no row meets C; then what a
-- comparison without C refuses, in its order; and last that C is too large for the pairs.
abbrev pub ComparedInEventsUnder : NetView → NetView → NetView → Settings → Result Outcome CompareError → Type 0
ComparedInEventsUnder a b c settings (Ok o) = IsAssumptionLimit a b c settings.conflicts o ⊎ IsComparedInEventsUnder a b c settings o
ComparedInEventsUnder a b c settings (Err (refused.Interface name)) = first_mismatch (ports_of a) (ports_of b) ≡ Some name
ComparedInEventsUnder a b c settings (Err (refused.Assume fault)) = InterfacesMatch a b × (IsFirstFault (shared_by a b) c fault ⊎ IsTooLargeForEvents a b c settings fault)
ComparedInEventsUnder a b c settings (Err (refused.Vacuous by)) = InterfacesMatch a b × IsVacuousBy (shared_by a b) c settings.conflicts by
ComparedInEventsUnder a b c settings (Err (refused.Cyclic side names)) = IsMet a b c × ComparedInEvents a b settings (Err (refused.Cyclic side names))
ComparedInEventsUnder a b c settings (Err (refused.Unpaired side names)) = IsMet a b c × ComparedInEvents a b settings (Err (refused.Unpaired side names))
ComparedInEventsUnder a b c settings (Err (refused.TooLarge side)) = IsMet a b c × ComparedInEvents a b settings (Err (refused.TooLarge side))
ComparedInEventsUnder a b c settings (Err refused.TooManyEvents) = IsMet a b c × ComparedInEvents a b settings (Err refused.TooManyEvents)
ComparedInEventsUnder a b c settings (Err refused.NoMemory) = Unit {0}

-- what a comparison under an assumption answers in a mode
abbrev pub ComparedUnderIn : Mode → NetView → NetView → NetView → Settings → Result Outcome CompareError → Type 0
ComparedUnderIn Plain a b c settings r = ComparedUnder a b c settings r
ComparedUnderIn Event a b c settings r = ComparedInEventsUnder a b c settings r
