-- One node more.
use Rattle.std.proofs.Common.{ap, subst, sym}
use Rattle.signal_refine.proofs.Copying.{copy_none, copy_more}
use Rattle.signal_refine.proofs.Framing.{within_grows}
use Rattle.signal_refine.proofs.copies.copy_of.Goals as goal

pub loop-n-init : goal.loop-n-init
loop-n-init c = copy_none c.args.base.now c.args.leaves.now c.args.anchors.now c.args.aig.now _ c.new-copy.ensures.own c.new-copy.ensures.read

pub put-requires-clause-leaves : goal.put-requires-clause-leaves
put-requires-clause-leaves c = within_grows c.args.aig.now c.loop-n.aig c.loop-n.invariant.grows c.args.leaves.now c.requires

pub put-requires-clause-each : goal.put-requires-clause-each
put-requires-clause-each c = c.loop-n.invariant.read_each

pub put-requires-clause-within : goal.put-requires-clause-within
put-requires-clause-within c = c.loop-n.invariant.read_within

pub loop-n-preserved : goal.loop-n-preserved
loop-n-preserved c =
    copy_more c.args.base.now c.args.leaves.now c.args.anchors.now c.args.aig.now c.loop-n.aig c.put.new.aig c.requires c.loop-n.n c.loop-n.copy c.put.new.self c.loop-n.invariant c.in_ok-put.ensures
