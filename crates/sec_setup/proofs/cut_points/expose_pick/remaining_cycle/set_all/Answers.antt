use Rattle.std.proofs.Common.{arith}
use Rattle.std.proofs.lemmas.Option.{slice_get-get_or}
use Rattle.sec_setup.proofs.cut_points.expose_pick.Bits.{bits_none, bits_more}
use Rattle.sec_setup.proofs.cut_points.expose_pick.remaining_cycle.set_all.Goals as goal

pub loop-i-init : goal.loop-i-init
loop-i-init c = bits_none c.args.bits.now c.args.positions.now c.requires.none

pub loop-i-preserved : goal.loop-i-preserved
loop-i-preserved c =
    let l = c.requires.within c.loop-i.i 0 c.loop-i-test.true in
    bits_more c.loop-i.bits c.args.positions.now c.loop-i.i _ c.loop-i.invariant (slice_get-get_or c.args.positions.now c.loop-i.i 0 c.loop-i-test.true) (omega (arith, l, c.loop-i.auto.bits))
