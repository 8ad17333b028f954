-- One node more.
use Rattle.std.proofs.Common.{◌<◌, length, arith}
use Rattle.aig.proofs.Growth.{Grows-refl, Grows-trans, Grows-length}
use Rattle.signal_refine.proofs.ahead.put_ahead.Goals as goal

pub loop-n-init : goal.loop-n-init
loop-n-init c = Grows-refl c.args.aig.now

pub lit_ahead-requires : goal.lit_ahead-requires
lit_ahead-requires c = let more = Grows-length c.args.aig.now c.loop-n.aig c.loop-n.invariant in omega (arith, more)

pub loop-n-preserved : goal.loop-n-preserved
loop-n-preserved c = Grows-trans c.args.aig.now c.loop-n.aig c.lit_ahead.new.aig c.loop-n.invariant c.in_ok-lit.ensures
