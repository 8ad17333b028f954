-- The swept graph takes the place of the old one.
use Rattle.std.proofs.Common.{arith}
use Rattle.merged_graph.proofs.Standing.{swept_stand}
use Rattle.merged_graph.proofs.merged.MergedGraph.sweep.Goals as goal

pub returns : goal.returns
returns c = record {
  few = omega (arith, c.requires.few, c.in_ok-swept.ensures.each);
  stand = swept_stand c.args.other.now c.args.self.now.graph c.args.self.now.lits c.in_ok-swept.swept c.requires.stand c.in_ok-swept.ensures;
}
