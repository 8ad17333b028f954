use Rattle.edbf_unfold.proofs.ReachedNodes.{NodesUpTo}
use Rattle.edbf_unfold.proofs.unfolder.EventUnfolder.nodes_of.Given as goal

abbrev pub invariant-loop-number : goal.invariant-loop-number
invariant-loop-number l = NodesUpTo l.self.circuit l.self.frames l.table l.ways l.number l.nodes.items
