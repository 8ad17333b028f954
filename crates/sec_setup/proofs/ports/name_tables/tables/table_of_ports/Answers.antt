use Rattle.std.proofs.Common.{◌∙◌, map, refl, sym, ap, Some}
use Rattle.circuit_theory.proofs.Numbers.{slice_get-map}
use Rattle.flat_net.specs.declared.parts.Port.{Port}
use Rattle.sec_setup.proofs.ports.name_tables.Names.{item_at, names_more}
use Rattle.sec_setup.proofs.ports.name_tables.tables.table_of_ports.Goals as goal

pub loop-port-preserved : goal.loop-port-preserved
loop-port-preserved c =
    let ports = c.args.ports.now in
    let at = item_at ports ports c.loop-port.port-index c.port-item.result refl c.loop-port-test.true c.port-item.is in
    names_more (map (λ (p : Port). p.name) ports) c.loop-port.table c.add.new.self c.loop-port.port-index c.as_slice.result.now c.requires
    (slice_get-map (λ (p : Port). p.name) ports c.loop-port.port-index c.port-item.result at ∙ ap Some (sym c.as_slice.ensures)) c.loop-port.invariant c.in_ok-add.ensures.ok
