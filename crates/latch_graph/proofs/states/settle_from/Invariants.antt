use Rattle.std.proofs.Common.{◌+◌, ◌*◌, length}
use Rattle.latch_graph.specs.Settling.{IsWay, IsLater, new_count}
use Rattle.latch_graph.proofs.states.settle_from.Given as goal

abbrev pub invariant-loop-step : goal.invariant-loop-step
invariant-loop-step l = record { way : IsWay l.nodes l.states l.way.items; later : IsLater l.initial.states l.states }

abbrev pub decreases-loop-step : goal.decreases-loop-step
decreases-loop-step l = length l.way.items + 2 * new_count l.states
