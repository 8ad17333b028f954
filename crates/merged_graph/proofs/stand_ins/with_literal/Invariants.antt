use Rattle.std.proofs.Common.{◌≡◌, List, length}
use Rattle.aig.specs.declared.node.Node.{Node}
use Rattle.swept_queries.specs.node_agreement.Standing.{StandsFor, AreStandIns, plainly}
use Rattle.merged_graph.proofs.stand_ins.with_literal.Given as goal

abbrev pub invariant-loop-n : goal.invariant-loop-n
invariant-loop-n l = record {
  each : length l.made.items ≡ l.n;
  stand : (g h : List Node) → AreStandIns g h l.lits → StandsFor plainly g h l.fn.from.0 l.fn.to.0 → AreStandIns g h l.made.items;
}
