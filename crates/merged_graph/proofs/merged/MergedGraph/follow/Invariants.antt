use Rattle.std.proofs.Common.{◌≡◌, length}
use Rattle.merged_graph.specs.Merged.{IsMerged}
use Rattle.merged_graph.proofs.merged.MergedGraph.follow.Given as goal

abbrev pub invariant-loop-n : goal.invariant-loop-n
invariant-loop-n l = record { merged : IsMerged l.other l.self; each : length l.self.lits ≡ l.n }
