use Rattle.std.proofs.Common.{◌≡◌, map, take}
use Rattle.flatten.specs.Graph.{source_reads}
use Rattle.flatten.proofs.loops.graph.Given as goal

abbrev pub invariant-loop-number : goal.invariant-loop-number
invariant-loop-number l = l.graph.items ≡ map (source_reads l.flat.statements) (take l.number l.wired.sources)
