-- The verdict of each form as an outcome has it.
use Rattle.obligations.specs.declared.outcome.verdict.LimitAt.TheVariants as limit_at
use Rattle.obligations.specs.declared.outcome.verdict.Verdict.{Verdict}
use Rattle.obligations.specs.declared.outcome.verdict.Verdict.TheVariants as verdict
use Rattle.reset_form.specs.declared.reset_asked.findings.ResetVerdict.{ResetVerdict}
use Rattle.reset_form.specs.declared.reset_asked.findings.ResetVerdict.TheVariants as found

-- the verdict of a comparison from initial values, as an outcome has it
abbrev pub verdict_of : ResetVerdict → Verdict
verdict_of found.Equal = verdict.Equal
verdict_of (found.Different w) = verdict.DifferentFrom w
verdict_of (found.Limit name) = verdict.Limit (limit_at.Pair name)
