use Rattle.std.proofs.Common.{◌≡◌}
use Rattle.swept_queries.proofs.sweep.growth.Growth.agreeing.Given as goal

abbrev pub invariant-loop-t : goal.invariant-loop-t
invariant-loop-t l = record { graph : l.self.graph ≡ l.initial.self.graph; map : l.self.map.items ≡ l.initial.self.map.items; chosen : l.self.chosen.items ≡ l.initial.self.chosen.items }
