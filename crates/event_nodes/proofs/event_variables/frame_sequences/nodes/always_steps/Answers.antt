-- One step up.
use Rattle.std.proofs.Common.{refl, arith}
use Rattle.event_nodes.proofs.event_variables.frame_sequences.Steps.{climbed_more, climbed_none, climbed_all}
use Rattle.event_nodes.proofs.event_variables.frame_sequences.nodes.always_steps.Goals as goal

pub loop-at-init : goal.loop-at-init
loop-at-init c = record { path = refl; few = omega arith }

pub loop-at-preserved : goal.loop-at-preserved
loop-at-preserved c = climbed_more c.args.events.now.children c.keeps.ensures.events.is_tree c.args.node c.loop-at.at c.loop-at.steps c.step-parent.result c.loop-at.invariant c.loop-at-test.true c.step-parent.ensures c.if-class-ne0.false

pub returns-then-class-ne0 : goal.returns-then-class-ne0
returns-then-class-ne0 c = climbed_none c.args.events.now.children c.keeps.ensures.events.is_tree c.args.node c.loop-at.at c.loop-at.steps c.step-parent.result c.loop-at.invariant c.loop-at-test.true c.step-parent.ensures c.if-class-ne0.true

pub returns : goal.returns
returns c = climbed_all c.args.events.now.children c.args.node c.loop-at.at c.loop-at.steps c.loop-at.invariant c.loop-at-test.false

pub step-parent-requires-clause-below_root : goal.step-parent-requires-clause-below_root
step-parent-requires-clause-below_root c = c.loop-at-test.true

pub step-parent-requires-clause-made : goal.step-parent-requires-clause-made
step-parent-requires-clause-made c = omega (arith, c.loop-at.invariant.few, c.requires)

pub overflow_add-steps : goal.overflow_add-steps
overflow_add-steps c = omega (arith, c.loop-at.invariant.few, c.loop-at-test.true, c.ranges.node.fits)

pub loop-at-smaller : goal.loop-at-smaller
loop-at-smaller c =
    let low = c.keeps.ensures.events.is_tree _ c.step-parent.result.0 c.step-parent.result.1 c.step-parent.ensures in
    omega (arith, low, c.loop-at-test.true)
