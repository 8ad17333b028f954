use Rattle.std.specs.Prelude.{◌≡◌, drop}
use Rattle.job_settles.specs.Report.{first_limit}
use Rattle.job_settles.proofs.report.first_limit.Given as goal

abbrev pub invariant-loop-care : goal.invariant-loop-care
invariant-loop-care l = first_limit l.cares ≡ first_limit (drop l.care-index l.cares)
