use Rattle.edbf_unfold.proofs.event_literals.event_walk.Planning.{HaveSteps}
use Rattle.edbf_unfold.proofs.event_literals.event_walk.walker.EventWalker.plan.Given as goal

abbrev pub invariant-loop-number : goal.invariant-loop-number
invariant-loop-number l = HaveSteps l.self.frames l.nodes l.table l.ways l.number l.steps.items
