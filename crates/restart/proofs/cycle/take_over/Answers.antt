-- The latch that the loop is at takes over what is known of its data.
use Rattle.std.proofs.Common.{◌≡◌, length, ap, arith}
use Rattle.std.proofs.lemmas.Option.{slice_get_within}
use Rattle.cycle_sim.proofs.Lists.{item_at}
use Rattle.restart.proofs.Bits.{taken_more}
use Rattle.restart.proofs.cycle.take_over.Goals as goal

pub bounds-values-latch : goal.bounds-values-latch
bounds-values-latch c =
    let at = item_at c.args.net.now.latches _ c.loop-j.j c.latch-item.result c.latches-latch-items.ensures c.loop-j-test.true c.latch-item.is in
    let within = (c.keeps.ensures.sound.latches c.loop-j.j c.latch-item.result at).within in
    omega (arith, within, c.requires.values)

pub loop-j-preserved : goal.loop-j-preserved
loop-j-preserved c =
    let at = item_at c.args.net.now.latches _ c.loop-j.j c.latch-item.result c.latches-latch-items.ensures c.loop-j-test.true c.latch-item.is in
    let size : length c.loop-j.latches ≡ length c.args.net.now.latches = omega (arith, c.loop-j.auto.latches, c.requires.latches) in
    taken_more c.args.net.now c.args.values.now c.loop-j.latches c.loop-j.j c.latch-item.result at size c.loop-j.invariant

pub returns-clause-taken : goal.returns-clause-taken
returns-clause-taken c = λ j l at.
    c.loop-j.invariant j l (let w = slice_get_within c.args.net.now.latches j l at in let e = ap length c.latches-latch-items.ensures in omega (arith, w, e, c.loop-j-test.false)) at
