use Rattle.event_nodes.proofs.event_variables.frame_sequences.Steps.{IsClimbed}
use Rattle.event_nodes.proofs.event_variables.frame_sequences.nodes.always_steps.Given as goal

abbrev pub invariant-loop-at : goal.invariant-loop-at
invariant-loop-at l = IsClimbed l.events.children l.node l.at l.steps

abbrev pub decreases-loop-at : goal.decreases-loop-at
decreases-loop-at l = l.at
