-- The verdict from the initial values as an outcome has it.
use Rattle.obligations.specs.declared.outcome.verdict.LimitAt.TheVariants as limit_at
use Rattle.obligations.specs.declared.outcome.verdict.Verdict.{Verdict}
use Rattle.obligations.specs.declared.outcome.verdict.Verdict.TheVariants as verdict
use Rattle.plain_check.specs.asked_under.reset_asked_under.ResetVerdict.{ResetVerdict}
use Rattle.plain_check.specs.asked_under.reset_asked_under.ResetVerdict.TheVariants as found

abbrev pub verdict_of : ResetVerdict → Verdict
verdict_of found.Equal = verdict.Equal
verdict_of (found.Different w) = verdict.DifferentFrom w
verdict_of (found.Limit name) = verdict.Limit (limit_at.Pair name)
