-- One variable more.
use Rattle.signal_refine.proofs.Framing.{fit_grows, leaves_more, leaves_none}
use Rattle.signal_refine.proofs.leaves.leaves_of.Goals as goal

pub loop-v-init : goal.loop-v-init
loop-v-init c = leaves_none c.args.cycle.now c.args.aig.now _ c.new-leaves.ensures.items

pub leaf-requires-clause-fit : goal.leaf-requires-clause-fit
leaf-requires-clause-fit c = fit_grows c.args.cycle.now c.args.aig.now c.loop-v.aig c.requires.fit c.loop-v.invariant.grows

pub loop-v-preserved : goal.loop-v-preserved
loop-v-preserved c =
    leaves_more c.args.cycle.now c.args.aig.now c.loop-v.aig c.leaf.new.aig c.requires.fit c.loop-v.v c.loop-v.leaves.items c.push.new.self.items c.in_ok-made.made c.loop-v.invariant c.in_ok-made.ensures.grows c.in_ok-made.ensures.within c.in_ok-push.ensures.items c.in_ok-made.ensures.value
