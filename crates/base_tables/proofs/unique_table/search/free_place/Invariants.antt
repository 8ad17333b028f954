use Rattle.base_tables.specs.unique_table.Places.{AreTaken}
use Rattle.base_tables.proofs.unique_table.search.free_place.Given as goal

abbrev pub invariant-loop-step : goal.invariant-loop-step
invariant-loop-step g l = AreTaken (g.K.Key.place_at l.key) l.slots l.step
