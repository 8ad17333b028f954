-- Each step can be done once those before it have been.
use Rattle.std.proofs.Common.{◌+◌, arith}
use Rattle.std.proofs.lemmas.Option.{slice_get-get_or, slice_get_within}
use Rattle.circuit_theory.proofs.Lists.{at_of}
use Rattle.edbf_unfold.specs.declared.event_literals.event_walk.frames.Step.{Step}
use Rattle.event_nodes.specs.flat_net.Weights.{weight_at}
use Rattle.edbf_unfold.proofs.event_literals.Going.{later_none, later_within, ready_next, room_next, met_next, step_later, sum_take}
use Rattle.edbf_unfold.proofs.event_literals.builder.EventBuilder.build.Goals as goal

pub loop-step-init : goal.loop-step-init
loop-step-init c = record { known = c.requires.known; met = λ j q below at. absurd (omega (arith, below)); later = later_none c.args.self.now c.args.events.now 0 }

pub build_step-requires-clause-ready : goal.build_step-requires-clause-ready
build_step-requires-clause-ready c =
    ready_next c.args.self.now c.loop-step.self c.args.events.now c.loop-step.events c.args.plan.now c.loop-step.step-index _ _ c.requires.plan c.loop-step.invariant.later (slice_get-get_or c.args.plan.now c.loop-step.step-index _ c.loop-step-test.true) c.loop-step.invariant.met

pub build_step-requires-clause-nodes : goal.build_step-requires-clause-nodes
build_step-requires-clause-nodes c =
    room_next c.args.self.now c.loop-step.self c.args.events.now c.loop-step.events c.args.plan.now c.loop-step.step-index _ _ c.loop-step.invariant.later c.loop-step-test.true c.requires.nodes

pub returns-in_err-build_step-clause-later : goal.returns-in_err-build_step-clause-later
returns-in_err-build_step-clause-later c =
    later_within c.args.self.now c.build_step.new.self c.args.events.now c.build_step.new.events _ _
    (step_later c.args.self.now c.loop-step.self c.build_step.new.self c.args.events.now c.loop-step.events c.build_step.new.events c.args.plan.now c.loop-step.step-index _ c.loop-step-test.true c.loop-step.invariant.later c.build_step.ensures.later)
    (sum_take (λ (p : Step). weight_at c.args.self.now.circuit.net p.signal) c.args.plan.now (c.loop-step.step-index + 1))

pub loop-step-preserved : goal.loop-step-preserved
loop-step-preserved c = record {
  known = c.build_step.ensures.known;
  met = met_next c.loop-step.self c.build_step.new.self c.loop-step.events c.build_step.new.events _ c.args.plan.now c.loop-step.step-index _ c.loop-step-test.true c.build_step.ensures.later c.in_ok-build_step.ensures.met c.loop-step.invariant.met;
  later = step_later c.args.self.now c.loop-step.self c.build_step.new.self c.args.events.now c.loop-step.events c.build_step.new.events c.args.plan.now c.loop-step.step-index _ c.loop-step-test.true c.loop-step.invariant.later c.build_step.ensures.later;
}

pub returns-clause-met : goal.returns-clause-met
returns-clause-met c = λ p h.
    let at = at_of c.args.plan.now p h in
    let inside = slice_get_within c.args.plan.now at.0 p at.1 in
    c.loop-step.invariant.met at.0 p (omega (arith, inside, c.loop-step-test.false)) at.1
