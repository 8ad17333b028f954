use Rattle.std.proofs.Common.{◌-◌, length}
use Rattle.latch_graph.specs.Rounds.{IsTrail}
use Rattle.latch_graph.proofs.rounds.round_from.Given as goal

abbrev pub invariant-walk : goal.invariant-walk
invariant-walk l = IsTrail l.nodes l.latches l.states l.passed.items l.trail.items l.at

abbrev pub decreases-walk : goal.decreases-walk
decreases-walk l = length l.latches - length l.trail.items
