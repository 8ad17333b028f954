use Rattle.std.proofs.Common.{◌≡◌, take}
use Rattle.sec_setup.proofs.ports.name_tables.tables.table_of_names.Given as goal

abbrev pub invariant-loop-name : goal.invariant-loop-name
invariant-loop-name l = l.table ≡ take l.name-index l.names
