use Rattle.std.proofs.Common.{◌≡◌, drop}
use Rattle.circuit_theory.specs.Interface.{first_missing}
use Rattle.sec_setup.proofs.ports.name_tables.tables.first_missing.Given as goal

abbrev pub invariant-loop-id : goal.invariant-loop-id
invariant-loop-id l = first_missing l.names l.others ≡ first_missing (drop l.id l.names) l.others
