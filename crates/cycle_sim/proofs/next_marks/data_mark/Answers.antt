-- What the latch takes over is a signal of the net.
use Rattle.std.proofs.Common.{◌≡◌, ◌<◌, List, Some, slice_get, length, get_or, false, refl, subst, ap, arith}
use Rattle.std.proofs.lemmas.Option.{slice_get-get_or, slice_get_read}
use Rattle.flat_net.specs.declared.parts.LatchAt.{LatchAt}
use Rattle.flat_net.proofs.Places.{one_at}
use Rattle.cycle_sim.proofs.next_marks.data_mark.Goals as goal

pub bounds-marks-taker : goal.bounds-marks-taker
bounds-marks-taker c =
    let l : c.args.latch < length c.latches.result.now = omega (arith, c.requires.latch, ap length c.latches.ensures) in
    let at = slice_get_read c.latches.result.now (length c.latches.result.now) c.args.latch c.index-latches-latch.result refl l c.index-latches-latch.is in
    let here = subst (λ (z : List LatchAt). slice_get z c.args.latch ≡ Some c.index-latches-latch.result) c.latches.ensures at in
    let m = (c.keeps.ensures.sound.latches c.args.latch c.index-latches-latch.result here).within in
    omega (arith, m, c.requires.marks)

pub returns : goal.returns
returns c = λ l h.
    let inside : c.args.latch < length c.latches.result.now = omega (arith, c.requires.latch, ap length c.latches.ensures) in
    let at = slice_get_read c.latches.result.now (length c.latches.result.now) c.args.latch c.index-latches-latch.result refl inside c.index-latches-latch.is in
    let here : slice_get c.args.net.now.latches c.args.latch ≡ Some c.index-latches-latch.result = subst (λ (z : List LatchAt). slice_get z c.args.latch ≡ Some c.index-latches-latch.result) c.latches.ensures at in
    let same : c.index-latches-latch.result ≡ l = one_at c.args.net.now.latches c.args.latch c.index-latches-latch.result l here h in
    let m = (c.keeps.ensures.sound.latches c.args.latch c.index-latches-latch.result here).within in
    subst (λ (z : LatchAt). slice_get c.args.marks.now z.next.0 ≡ Some (get_or c.args.marks.now c.index-latches-latch.result.next.0 false)) same
    (slice_get-get_or c.args.marks.now c.index-latches-latch.result.next.0 false (omega (arith, m, c.requires.marks)))
