use Rattle.std.proofs.Common.{◌∙◌, sym, ap, Some}
use Rattle.sec_setup.proofs.ports.name_tables.Names.{item_at, names_more}
use Rattle.sec_setup.proofs.ports.name_tables.tables.table_of_names.Goals as goal

pub loop-name-preserved : goal.loop-name-preserved
loop-name-preserved c =
    let at = item_at c.args.names.now _ c.loop-name.name-index c.name-item.result c.as_slice-name-items.ensures c.loop-name-test.true c.name-item.is in
    names_more c.args.names.now c.loop-name.table c.add.new.self c.loop-name.name-index c.as_slice.result.now c.requires (at ∙ ap Some (sym c.as_slice.ensures)) c.loop-name.invariant c.in_ok-add.ensures.ok
