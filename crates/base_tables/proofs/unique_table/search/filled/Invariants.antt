use Rattle.std.proofs.Common.{take}
use Rattle.base_tables.specs.unique_table.Places.{IsTable}
use Rattle.base_tables.proofs.unique_table.search.filled.Given as goal

abbrev pub invariant-loop-number : goal.invariant-loop-number
invariant-loop-number g l = IsTable g.K.Key.place_at l.tries (take l.number l.keys) l.slots.items
