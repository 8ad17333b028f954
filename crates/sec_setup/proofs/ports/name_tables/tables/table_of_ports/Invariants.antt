use Rattle.std.proofs.Common.{◌≡◌, map, take}
use Rattle.flat_net.specs.declared.parts.Port.{Port}
use Rattle.sec_setup.proofs.ports.name_tables.tables.table_of_ports.Given as goal

abbrev pub invariant-loop-port : goal.invariant-loop-port
invariant-loop-port l = l.table ≡ take l.port-index (map (λ (p : Port). p.name) l.ports)
