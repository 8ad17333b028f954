use Rattle.std.proofs.Common.{◌≡◌, take}
use Rattle.latch_graph.specs.flat_net.Cut.{exposed_names}
use Rattle.sec_setup.proofs.cut_points.exposed.names_at.Given as goal

abbrev pub invariant-loop-position : goal.invariant-loop-position
invariant-loop-position l = l.names ≡ exposed_names l.net (take l.position-index l.positions)
