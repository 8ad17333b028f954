use Rattle.std.proofs.Common.{◌*◌, ◌<◌, List, length}
use Rattle.std.specs.List.{All}
use Rattle.aig.specs.declared.node.Lit.{Lit}
use Rattle.aig.specs.declared.node.Node.{Node}
use Rattle.swept_queries.specs.node_agreement.Standing.{AreStandIns}
use Rattle.merged_graph.proofs.targets.put_open.Given as goal

abbrev pub invariant-loop-i : goal.invariant-loop-i
invariant-loop-i l = (g h : List Node) → AreStandIns g h l.lits → All (λ (x : Lit). x.0 < 2 * length h) l.initial.found.items → All (λ (x : Lit). x.0 < 2 * length h) l.found.items
