use Rattle.std.proofs.Common.{◌≡◌, length}
use Rattle.merged_graph.specs.Merged.{IsMerged}
use Rattle.merged_graph.proofs.merged.MergedGraph.decide.Given as goal

abbrev pub invariant-loop-i : goal.invariant-loop-i
invariant-loop-i l = record { merged : IsMerged l.other l.self; each : l.nodes ≡ length l.table }
