-- What a comparison with the cares of its pairs answers, in the mode that is asked for.
use Rattle.std.specs.Prelude.{◌≡◌, [], Result, Ok, Err}
use Rattle.circuit_theory.specs.declared.Mode.{Mode}
use Rattle.circuit_theory.specs.declared.Mode.TheVariants.{Plain, Event}
use Rattle.flat_net.specs.View.{NetView}
use Rattle.sec_base.specs.declared.settings.Settings.{Settings}
use Rattle.event_setup.specs.event_meaning.event_names.event_fits.Compared.{ComparedIn}
use Rattle.event_setup.specs.event_meaning.event_meaning_under.Answered.{ComparedUnderIn}
use Rattle.event_setup.specs.event_meaning.event_meaning_under.CompareError.{CompareError}
use Rattle.event_check.specs.event_answers.Settles.{CaresFit}
use Rattle.event_check.specs.event_check_under.Settles.{CaresFitUnder}
use Rattle.event_check.specs.declared.event_answers.outcomes.Settled.{Settled}

-- The outcome of the comparison. In the event mode these are the cares of its pairs; in the plain mode there are none to be asked about, since each pair is
-- settled from its depth on.
abbrev pub SettledIn : Mode → NetView → NetView → Settings → Result Settled CompareError → Type 0
SettledIn Plain a b settings (Ok s) = ComparedIn Plain a b settings (Ok s.outcome) × (s.cares ≡ [])
SettledIn Event a b settings (Ok s) = ComparedIn Event a b settings (Ok s.outcome) × CaresFit a b settings s.outcome s.cares
SettledIn mode a b settings (Err error) = ComparedIn mode a b settings (Err error)

-- the same under an assumption
abbrev pub SettledUnderIn : Mode → NetView → NetView → NetView → Settings → Result Settled CompareError → Type 0
SettledUnderIn Plain a b c settings (Ok s) = ComparedUnderIn Plain a b c settings (Ok s.outcome) × (s.cares ≡ [])
SettledUnderIn Event a b c settings (Ok s) = ComparedUnderIn Event a b c settings (Ok s.outcome) × CaresFitUnder a b c settings s.outcome s.cares
SettledUnderIn mode a b c settings (Err error) = ComparedUnderIn mode a b c settings (Err error)
