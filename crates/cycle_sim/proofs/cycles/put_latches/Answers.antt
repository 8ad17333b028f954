-- The latch that the loop is at is written to its own signal.
use Rattle.std.proofs.Common.{◌<◌, length, ap, arith}
use Rattle.std.proofs.lemmas.Option.{slice_get_within}
use Rattle.cycle_sim.proofs.Lists.{item_at, latch_within}
use Rattle.cycle_sim.proofs.Values.{latches_more}
use Rattle.cycle_sim.proofs.cycles.put_latches.Goals as goal

pub bounds-values-latch : goal.bounds-values-latch
bounds-values-latch c =
    let at = item_at c.args.net.now.latches _ c.loop-j.j c.latch-item.result c.latches-latch-items.ensures c.loop-j-test.true c.latch-item.is in
    let within = latch_within c.args.net.now c.keeps.ensures.sound c.loop-j.j c.latch-item.result at in
    omega (arith, within, c.loop-j.auto.values, c.requires.values)

pub loop-j-preserved : goal.loop-j-preserved
loop-j-preserved c =
    let at = item_at c.args.net.now.latches _ c.loop-j.j c.latch-item.result c.latches-latch-items.ensures c.loop-j-test.true c.latch-item.is in
    let within = latch_within c.args.net.now c.keeps.ensures.sound c.loop-j.j c.latch-item.result at in
    let below : c.latch-item.result.out.0 < length c.loop-j.values = omega (arith, within, c.loop-j.auto.values, c.requires.values) in
    λ v has. latches_more c.args.net.now c.args.latches.now c.args.values.now c.loop-j.values c.loop-j.j c.latch-item.result _ at below v has (c.loop-j.invariant v has)

pub returns-clause-keeps : goal.returns-clause-keeps
returns-clause-keeps c = λ v has. (c.loop-j.invariant v has).kept

pub returns-clause-put : goal.returns-clause-put
returns-clause-put c = λ v has j l at.
    (c.loop-j.invariant v has).put j l (let w = slice_get_within c.args.net.now.latches j l at in let e = ap length c.latches-latch-items.ensures in omega (arith, w, e)) at
