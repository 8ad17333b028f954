use Rattle.base_tables.proofs.unique_table.Searches.{Passed}
use Rattle.base_tables.proofs.unique_table.search.number_of.Given as goal

abbrev pub invariant-loop-step : goal.invariant-loop-step
invariant-loop-step g l = Passed (g.K.Key.place_at l.key) l.keys l.slots l.key l.step
