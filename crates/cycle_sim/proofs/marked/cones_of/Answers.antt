-- The numbers are those of the signals.
use Rattle.std.proofs.Common.{subst, sym}
use Rattle.signal_graph.specs.inner_cone.Inner.{AreRanked}
use Rattle.cycle_sim.proofs.marked.cones_of.Goals as goal

pub cones_by-requires-clause-ranked : goal.cones_by-requires-clause-ranked
cones_by-requires-clause-ranked c = subst (AreRanked c.args.net.now) (sym c.as_slice.ensures) c.in_ok-numbers.ensures
