use Rattle.std.specs.Prelude.{◌≡◌, ◌++◌, take}
use Rattle.std.specs.List.{flat_map}
use Rattle.job_settles.specs.Report.{care_line}
use Rattle.job_settles.proofs.report.put_cares.Given as goal

abbrev pub invariant-loop-care : goal.invariant-loop-care
invariant-loop-care l = l.text.items ≡ l.initial.text.items ++ flat_map care_line (take l.care-index l.cares)
