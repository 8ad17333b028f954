-- The latch that the loop is at has its mark written to its own signal.
use Rattle.std.proofs.Common.{◌<◌, length, ap, arith}
use Rattle.std.proofs.lemmas.Option.{slice_get_within}
use Rattle.cycle_sim.proofs.Lists.{item_at, latch_within}
use Rattle.cycle_sim.proofs.Marks.{latches_marked_more}
use Rattle.cycle_sim.proofs.cycle_marks.mark_latches.Goals as goal

pub bounds-marks-latch : goal.bounds-marks-latch
bounds-marks-latch c =
    let at = item_at c.args.net.now.latches _ c.loop-j.j c.latch-item.result c.latches-latch-items.ensures c.loop-j-test.true c.latch-item.is in
    let within = latch_within c.args.net.now c.keeps.ensures.sound c.loop-j.j c.latch-item.result at in
    omega (arith, within, c.loop-j.auto.marks, c.requires.marks)

pub loop-j-preserved : goal.loop-j-preserved
loop-j-preserved c =
    let at = item_at c.args.net.now.latches _ c.loop-j.j c.latch-item.result c.latches-latch-items.ensures c.loop-j-test.true c.latch-item.is in
    let within = latch_within c.args.net.now c.keeps.ensures.sound c.loop-j.j c.latch-item.result at in
    let below : c.latch-item.result.out.0 < length c.loop-j.marks = omega (arith, within, c.loop-j.auto.marks, c.requires.marks) in
    λ enabled run t ahead. latches_marked_more c.args.net.now enabled run t c.args.latches.now c.args.marks.now c.loop-j.marks c.loop-j.j c.latch-item.result _ at below ahead (c.loop-j.invariant enabled run t ahead)

pub returns-clause-keeps : goal.returns-clause-keeps
returns-clause-keeps c = λ enabled run t ahead. (c.loop-j.invariant enabled run t ahead).kept

pub returns-clause-put : goal.returns-clause-put
returns-clause-put c = λ enabled run t ahead j l at.
    (c.loop-j.invariant enabled run t ahead).put j l (let w = slice_get_within c.args.net.now.latches j l at in let e = ap length c.latches-latch-items.ensures in omega (arith, w, e)) at
