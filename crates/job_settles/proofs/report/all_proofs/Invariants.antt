use Rattle.std.specs.List.{filter_map}
use Rattle.std.proofs.Common.{◌≡◌, ◌++◌}
use Rattle.job_settles.specs.Report.{care_proof}
use Rattle.job_settles.proofs.report.all_proofs.Given as goal

abbrev pub invariant-loop-care : goal.invariant-loop-care
invariant-loop-care l = l.proofs ≡ l.initial.proofs ++ filter_map care_proof l.yielded
