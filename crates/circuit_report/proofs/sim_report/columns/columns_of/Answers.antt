-- Each input stands in the header, at its column.
use Rattle.std.proofs.Common.{◌≡◌, ℕ, List, [], ◌∷◌, ◌++◌, length, slice_get, Some, sym, ◌∙◌, ap, subst, arith, length-append}
use Rattle.std.specs.Prelude.{Contains}
use Rattle.circuit_theory.proofs.Lists.{Contains-map, of_at}
use Rattle.flat_net.specs.declared.parts.Port.{Port}
use Rattle.cycle_sim.proofs.Lists.{item_at}
use Rattle.sec_setup.specs.ports.name_tables.Names.{input_names}
use Rattle.sec_setup.proofs.ports.name_tables.Names.{missing_none}
use Rattle.circuit_report.proofs.sim_report.Places.{each_more}
use Rattle.circuit_report.proofs.sim_report.columns.columns_of.Goals as goal

pub unreachable-requires : goal.unreachable-requires
unreachable-requires c =
    let inputs = c.args.net.now.inputs in
    let at = item_at inputs _ c.loop-port.port-index c.port-item.result c.inputs-port-items.ensures c.loop-port-test.true c.port-item.is in
    let stands = Contains-map (λ (p : Port). p.name) inputs c.port-item.result (of_at inputs c.loop-port.port-index c.port-item.result at) in
    c.in_default.ensures.absent (subst (Contains c.args.names.now) (sym c.as_slice.ensures) (missing_none (input_names c.args.net.now) c.args.names.now c.requires c.port-item.result.name stands))

pub loop-port-preserved : goal.loop-port-preserved
loop-port-preserved c =
    let inputs = c.args.net.now.inputs in
    let names = c.args.names.now in
    let columns = c.loop-port.columns.items in
    let column = c.in-Some.column in
    let at = item_at inputs _ c.loop-port.port-index c.port-item.result c.inputs-port-items.ensures c.loop-port-test.true c.port-item.is in
    let named : slice_get names column ≡ Some c.port-item.result.name = c.in-Some.ensures.here ∙ ap Some c.as_slice.ensures in
    let grown : c.push.new.self.items ≡ columns ++ column ∷ [] = c.in_ok-push.ensures.items in
    let size = ap length grown in (
      omega (arith, size, length-append columns (column ∷ []), c.loop-port.invariant.0),
      λ i k port at_port at_column. each_more (λ (p : Port) (q : ℕ). slice_get names q ≡ Some p.name) inputs columns c.port-item.result column (ap (slice_get inputs) c.loop-port.invariant.0 ∙ at) named
          (λ j p q at_p at_q. c.loop-port.invariant.1 j q p at_p at_q) i port k at_port (sym (ap (λ (cs : List ℕ). slice_get cs i) grown) ∙ at_column),
    )
