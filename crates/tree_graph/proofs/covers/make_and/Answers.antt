use Rattle.aig.proofs.Making.{and_made}
use Rattle.tree_graph.proofs.covers.make_and.Goals as goal

pub returns-clause-made : goal.returns-clause-made
returns-clause-made c = and_made c.args.aig.now c.and.new.self c.args.l.0 c.args.r.0 c.and.result c.and.ensures.here c.and.ensures.made
