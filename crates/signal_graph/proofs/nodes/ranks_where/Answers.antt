-- Without numbers none is greater than another.
use Rattle.std.proofs.Common.{sym, subst}
use Rattle.signal_graph.specs.inner_cone.Inner.{AreRanked}
use Rattle.signal_graph.proofs.inner_cone.Inner.{none_ranked}
use Rattle.signal_graph.proofs.nodes.ranks_where.Goals as goal

pub returns-else-contains : goal.returns-else-contains
returns-else-contains c = subst (AreRanked c.args.net.now) (sym c.new.ensures) (none_ranked c.args.net.now)
