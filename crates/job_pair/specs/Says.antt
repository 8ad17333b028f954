-- What an outcome says of two circuits, by the form of comparing.
use Rattle.std.specs.Prelude.{◌≡◌}
use Rattle.circuit_theory.specs.declared.Mode.TheVariants.{Plain, Event}
use Rattle.circuit_theory.specs.Agree.{IsMinimalCut}
use Rattle.circuit_theory.specs.Circuit.{Circuit}
use Rattle.circuit_laws.specs.reset_laws.Reset.{AgreeFromReset}
use Rattle.sec_base.specs.declared.settings.Settings.{Settings}
use Rattle.witness_report.specs.declared.witness.Witness.{Witness}
use Rattle.obligations.specs.declared.outcome.verdict.Outcome.{Outcome}
use Rattle.obligations.specs.declared.outcome.verdict.ResetWitness.{ResetWitness}
use Rattle.obligations.specs.declared.outcome.verdict.Verdict.TheVariants as verdict
use Rattle.obligations.specs.declared.outcome.verdict.Why.TheVariants as why
use Rattle.plain_check.specs.under_base.compare_base.Says.{SaysEqual, SaysDifferent, SaysNotShown, MakesResetsDiffer}
use Rattle.job_check.specs.check_meaning.Answer.{InForm}

-- Over all power-ups: the exposed latches are a minimal cut; equal, different and not shown say of the circuits what they say.
pub record SaysPlainly {P Q : Type 0} (o : Outcome) (a : Circuit P) (b : Circuit Q) : Type 0 where
  pub minimal : IsMinimalCut Plain a b o.exposed
  pub equal : o.verdict ≡ verdict.Equal → SaysEqual Plain o a b
  pub different : (w : Witness) → o.verdict ≡ verdict.Different w → SaysDifferent Plain w a b
  pub not_shown : (w : Witness) → o.verdict ≡ verdict.NotShown (why.Cut w) → SaysNotShown Plain o.exposed w a b

-- From the initial values: so do equal and different.
pub record SaysFromReset {P Q : Type 0} (o : Outcome) (a : Circuit P) (b : Circuit Q) : Type 0 where
  pub equal : o.verdict ≡ verdict.Equal → AgreeFromReset a b
  pub different : (w : ResetWitness) → o.verdict ≡ verdict.DifferentFrom w → MakesResetsDiffer a b w

-- In the event mode: so do equal, different and not shown; where the circuits are equal, the exposed latches are a minimal cut.
pub record SaysInEvents {P Q : Type 0} (o : Outcome) (a : Circuit P) (b : Circuit Q) : Type 0 where
  pub minimal : o.verdict ≡ verdict.Equal → IsMinimalCut Event a b o.exposed
  pub equal : o.verdict ≡ verdict.Equal → SaysEqual Event o a b
  pub different : (w : Witness) → o.verdict ≡ verdict.Different w → SaysDifferent Event w a b
  pub not_shown : (w : Witness) → o.verdict ≡ verdict.NotShown (why.Cut w) → SaysNotShown Event o.exposed w a b

-- what the outcome says in the form that is asked for
abbrev pub SaysOf : {P Q : Type 0} → Settings → Outcome → Circuit P → Circuit Q → Type 0
SaysOf settings o a b = InForm settings.mode settings.reset (SaysPlainly o a b) (SaysFromReset o a b) (SaysInEvents o a b)
