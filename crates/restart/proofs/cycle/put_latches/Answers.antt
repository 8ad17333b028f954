-- The latch that the loop is at is written to its own signal.
use Rattle.std.proofs.Common.{length, refl, ap, arith}
use Rattle.std.proofs.lemmas.Option.{slice_get_within}
use Rattle.cycle_sim.proofs.Lists.{item_at, latch_within}
use Rattle.restart.proofs.Bits.{inputs_by_latch, latches_more}
use Rattle.restart.proofs.cycle.put_latches.Goals as goal

pub bounds-values-latch : goal.bounds-values-latch
bounds-values-latch c =
    let at = item_at c.args.net.now.latches _ c.loop-j.j c.latch-item.result c.latches-latch-items.ensures c.loop-j-test.true c.latch-item.is in
    let within = latch_within c.args.net.now c.keeps.ensures.sound c.loop-j.j c.latch-item.result at in
    omega (arith, within, c.loop-j.auto.values, c.requires.values)

pub loop-j-preserved : goal.loop-j-preserved
loop-j-preserved c =
    let net = c.args.net.now in
    let sound = c.keeps.ensures.sound in
    let at = item_at net.latches _ c.loop-j.j c.latch-item.result c.latches-latch-items.ensures c.loop-j-test.true c.latch-item.is in
    let within = latch_within net sound c.loop-j.j c.latch-item.result at in (
      λ columns row before. inputs_by_latch net sound c.loop-j.values c.loop-j.j c.latch-item.result _ at columns row (c.loop-j.invariant.0 columns row before),
      latches_more net sound c.loop-j.values c.loop-j.j c.latch-item.result _ at c.args.latches.now (omega (arith, within, c.loop-j.auto.values, c.requires.values)) refl c.loop-j.invariant.1,
    )

pub returns-clause-put : goal.returns-clause-put
returns-clause-put c = λ j l at. c.loop-j.invariant.1 j l (let w = slice_get_within c.args.net.now.latches j l at in let e = ap length c.latches-latch-items.ensures in omega (arith, w, e, c.loop-j-test.false)) at
