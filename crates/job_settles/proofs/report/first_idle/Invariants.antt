use Rattle.std.specs.Prelude.{◌≡◌, drop}
use Rattle.job_settles.specs.Report.{first_idle}
use Rattle.job_settles.proofs.report.first_idle.Given as goal

abbrev pub invariant-loop-care : goal.invariant-loop-care
invariant-loop-care l = first_idle l.cares ≡ first_idle (drop l.care-index l.cares)
