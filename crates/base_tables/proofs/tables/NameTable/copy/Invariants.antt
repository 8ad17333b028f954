use Rattle.std.proofs.Common.{◌≡◌, take}
use Rattle.base_tables.proofs.tables.NameTable.copy.Given as goal

abbrev pub invariant-loop-id : goal.invariant-loop-id
invariant-loop-id l = l.made ≡ take l.id l.self
