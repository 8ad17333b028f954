-- No keys stand in no places.
use Rattle.base_tables.proofs.unique_table.Filling.{table-none}
use Rattle.base_tables.proofs.unique_table.table.UniqueTable.new.Goals as goal

pub invariant_of-result : goal.invariant_of-result
invariant_of-result g c = table-none g.K.Key.place_at c.args.tries c.new.result.items c.new-2.result.items 0 c.new.ensures.items c.new-2.ensures.items
