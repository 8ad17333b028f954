use Rattle.std.specs.Prelude.{IfOk}
use Rattle.std.proofs.Common.{◌≡◌, List, map, sym, subst}
use Rattle.base_tables.specs.Table.{AreDistinct}
use Rattle.flat_net.specs.declared.parts.Port.{Port}
use Rattle.sec_setup.proofs.ports.name_tables.Names.{inputs_distinct}
use Rattle.sec_setup.proofs.ports.name_tables.tables.table_of_inputs.Goals as goal

pub table_of_ports-requires : goal.table_of_ports-requires
table_of_ports-requires c = subst (λ (ports : List Port). AreDistinct (map (λ (p : Port). p.name) ports)) (sym c.inputs.ensures) (inputs_distinct c.args.net.now c.keeps.ensures.sound)

pub returns : goal.returns
returns c = subst (λ (ports : List Port). IfOk c.table_of_ports.result (λ table. table ≡ map (λ (p : Port). p.name) ports)) c.inputs.ensures c.table_of_ports.ensures
