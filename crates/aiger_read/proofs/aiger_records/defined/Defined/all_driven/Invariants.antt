use Rattle.std.proofs.Common.{◌≡◌, drop}
use Rattle.std.specs.List.{list_all}
use Rattle.aiger_read.specs.aiger_records.Driven.{is_driven, all_driven, used_by}
use Rattle.aiger_read.proofs.aiger_records.defined.Defined.all_driven.Given as goal

abbrev pub invariant-loop-found : goal.invariant-loop-found
invariant-loop-found l = all_driven l.self.records ≡ list_all (λ r. list_all (is_driven l.self.records) (used_by r)) (drop l.found-index l.found-items)
