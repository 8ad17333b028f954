-- One latch more.
use Rattle.std.proofs.Common.{subst, arith}
use Rattle.block_refine.specs.Passes.{IsStep}
use Rattle.block_refine.proofs.Passing.{round_ends, round_limits}
use Rattle.block_refine.proofs.pass.pass_over.Goals as goal

pub step-requires-clause-pass : goal.step-requires-clause-pass
step-requires-clause-pass c = c.loop-j.invariant

pub step-requires-clause-conflicts : goal.step-requires-clause-conflicts
step-requires-clause-conflicts c = c.requires.conflicts

pub step-requires-clause-latch : goal.step-requires-clause-latch
step-requires-clause-latch c = omega (arith, c.loop-j-test.true, c.loop-j.invariant.each)

pub loop-j-preserved : goal.loop-j-preserved
loop-j-preserved c = subst (IsStep c.args.nets.now c.in_ok-graph.graph c.args.conflicts c.loop-j.j c.step.new.self) c.in-Goes.is c.in_ok-step.ensures

pub returns-in-Limit : goal.returns-in-Limit
returns-in-Limit c =
    let both = subst (IsStep c.args.nets.now c.in_ok-graph.graph c.args.conflicts c.loop-j.j c.step.new.self) c.in-Limit.is c.in_ok-step.ensures in
    round_limits c.args.nets.now c.in_ok-graph.graph c.args.conflicts c.loop-j.j c.step.new.self c.in-Limit.first c.loop-j.j c.in-Limit.proof c.ended.result c.in_ok-graph.ensures both.0 both.1 (c.ended.ensures.split, c.ended.ensures.same)

pub returns : goal.returns
returns c =
    round_ends c.args.nets.now c.keeps.ensures.sound c.keeps-2.ensures.sound c.args.conflicts c.loop-j.j c.loop-j.pass c.ended-2.result c.loop-j.invariant (omega (arith, c.loop-j-test.false)) (c.ended-2.ensures.split, c.ended-2.ensures.same)
