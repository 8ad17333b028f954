use Rattle.std.specs.Prelude.{◌≡◌, drop}
use Rattle.job_settles.specs.Report.{first_never}
use Rattle.job_settles.proofs.report.first_never.Given as goal

abbrev pub invariant-loop-care : goal.invariant-loop-care
invariant-loop-care l = first_never l.cares ≡ first_never (drop l.care-index l.cares)
