use Rattle.latch_graph.specs.Settling.{IsGivenUp}
use Rattle.latch_graph.proofs.states.give_up.Given as goal

abbrev pub invariant-loop-step : goal.invariant-loop-step
invariant-loop-step l = IsGivenUp l.step-items l.step-index l.initial.states l.states
