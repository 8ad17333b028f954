-- The verdicts of a comparison under an assumption in which no latch may be cut open.
use Rattle.std.specs.Prelude.{◌≡◌, ℕ, false}
use Rattle.circuit_theory.specs.declared.Mode.TheVariants.{Plain}
use Rattle.circuit_theory.specs.Circuit.{Circuit}
use Rattle.flat_net.specs.View.{NetView, circuit_of}
use Rattle.witness_report.specs.Shown.{MakesDiffer}
use Rattle.sec_base.specs.declared.settings.Settings.{Settings}
use Rattle.obligations.specs.declared.outcome.verdict.Outcome.{Outcome}
use Rattle.obligations.specs.declared.outcome.verdict.Verdict.{Verdict}
use Rattle.obligations.specs.declared.outcome.verdict.Verdict.TheVariants as verdict
use Rattle.assume_laws.specs.Assume.{Assumption, AgreeUnder}
use Rattle.assume_laws.specs.Sequences.{RowsMeet}
use Rattle.assume_queries.specs.assume_sequences.assume_taken.Taken.{assumed_by}
use Rattle.plain_check.specs.under_base.Compared.{IsComparedUnder}

-- equal, different or limit, and what the first two say
abbrev pub SaysUncut : Assumption → Circuit ℕ → Circuit ℕ → Verdict → Type 0
SaysUncut c a b verdict.Equal = AgreeUnder Plain c a b
SaysUncut c a b (verdict.Different w) = MakesDiffer a b w × RowsMeet c w.stimulus.rows w.cycle
SaysUncut c a b (verdict.DifferentFrom w) = ⊥
SaysUncut c a b (verdict.NotShown reason) = ⊥
SaysUncut c a b (verdict.Limit at) = Unit {0}

abbrev pub VerdictsUnder : Type 0
VerdictsUnder = (a b c : NetView) (settings : Settings) (o : Outcome) → (is : IsComparedUnder a b c settings o) → settings.expose ≡ false → SaysUncut (assumed_by is.met.assumed) (circuit_of a) (circuit_of b) o.verdict
