-- One latch more is taken out.
use Rattle.std.proofs.Common.{◌≡◌, ◌+◌, ◌∙◌, length, get_or, refl, sym, ap, subst, arith}
use Rattle.std.proofs.Math.ListN.{set}
use Rattle.std.proofs.lemmas.Option.{slice_get-get_or, slice_get_read, get_or_from_slice_get}
use Rattle.latch_graph.specs.minimal_cut.graph_components.flat_net.LatchAt.{LatchAt}
use Rattle.latch_graph.specs.minimal_cut.graph_components.flat_net.Cut.{no_latch}
use Rattle.latch_graph.specs.declared.minimal_cut.marks.Mark.TheVariants.{Out}
use Rattle.latch_graph.specs.minimal_cut.Marks.{AreFirst, signal_of}
use Rattle.latch_graph.proofs.minimal_cut.Marking.{first_none, first_more}
use Rattle.latch_graph.proofs.minimal_cut.marks.mark_out.Goals as goal

pub loop-i-init : goal.loop-i-init
loop-i-init c = first_none c.args.latches.now c.args.positions.now c.args.marks.now c.requires.none

pub loop-i-preserved : goal.loop-i-preserved
loop-i-preserved c =
    let inside = c.requires.within c.loop-i.i 0 c.loop-i-test.true in
    let at = slice_get_read c.args.latches.now (length c.args.latches.now) (get_or c.args.positions.now c.loop-i.i 0) c.index-latches-position.result refl inside c.index-latches-position.is in
    let same : signal_of c.args.latches.now (get_or c.args.positions.now c.loop-i.i 0) ≡ c.index-latches-position.result.out.0 = ap (λ (z : LatchAt). z.out.0) (get_or_from_slice_get c.args.latches.now (get_or c.args.positions.now c.loop-i.i 0) c.index-latches-position.result no_latch at) in
    let out = c.requires.out (get_or c.args.positions.now c.loop-i.i 0) c.index-latches-position.result at in
    let read : (get_or c.args.latches.now (get_or c.args.positions.now c.loop-i.i 0) c.index-latches-position.result).out.0 ≡ c.index-latches-position.result.out.0 = ap (λ (z : LatchAt). z.out.0) (sym c.index-latches-position.is) in
    subst (λ z. AreFirst c.args.latches.now c.args.positions.now (c.loop-i.i + 1) (set c.loop-i.marks z Out)) (same ∙ sym read)
    (first_more c.args.latches.now c.args.positions.now c.loop-i.i (get_or c.args.positions.now c.loop-i.i 0) c.loop-i.marks c.loop-i.invariant (slice_get-get_or c.args.positions.now c.loop-i.i 0 c.loop-i-test.true) (omega (arith, out, same, c.loop-i.auto.marks)))

pub bounds-marks-signal : goal.bounds-marks-signal
bounds-marks-signal c =
    let j = get_or c.args.positions.now c.loop-i.i 0 in
    let inside = c.requires.within c.loop-i.i 0 c.loop-i-test.true in
    let at = slice_get_read c.args.latches.now (length c.args.latches.now) j c.index-latches-position.result refl inside c.index-latches-position.is in
    let out = c.requires.out j c.index-latches-position.result at in
    omega (arith, out, ap (λ (z : LatchAt). z.out.0) c.index-latches-position.is, c.loop-i.auto.marks)
