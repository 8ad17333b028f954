use Rattle.std.proofs.Common.{◌+◌, ◌∙◌, [], sym, subst, arith}
use Rattle.flat_net.specs.Makes.{MakerView}
use Rattle.job_gen.specs.pair_gen.Sketch.{IsSketch, latch_cell}
use Rattle.job_gen.proofs.pair_gen.Drawn.{room_for, name_new, latch_more}
use Rattle.job_gen.proofs.pair_gen.Numbers.{cell_at-latch}
use Rattle.job_gen.proofs.pair_gen.sketch.add_latches.Goals as goal

pub latch-requires-clause-room : goal.latch-requires-clause-room
latch-requires-clause-room c =
    let low = c.loop-place-test.true in
    room_for c.args.plan.now.circuit c.args.plan.now.regroup c.args.plan.now.words.now [] c.loop-place.maker 40 c.loop-place.place 0 c.loop-place.invariant (omega arith)

pub latch-requires-clause-new : goal.latch-requires-clause-new
latch-requires-clause-new c =
    let low = c.loop-place-test.true in
    name_new c.args.plan.now.circuit c.args.plan.now.regroup c.args.plan.now.words.now [] c.loop-place.maker 40 c.loop-place.place 0 c.loop-place.invariant (omega arith) c.as_slice.result.now (latch_cell c.loop-place.place)
    (c.as_slice.ensures.value ∙ c.in_ok-name.ensures) (cell_at-latch (40 + c.loop-place.place + 0) c.loop-place.place (omega arith) low)

pub loop-place-preserved : goal.loop-place-preserved
loop-place-preserved c =
    subst (λ (m : MakerView). IsSketch c.args.plan.now.circuit c.args.plan.now.regroup c.args.plan.now.words.now [] m 40 (c.loop-place.place + 1) 0) (sym c.in_ok-latch.ensures.ok)
    (latch_more c.args.plan.now.circuit c.args.plan.now.regroup c.args.plan.now.words.now [] c.loop-place.maker c.loop-place.place c.loop-place-test.true c.loop-place.invariant c.as_slice.result.now (c.as_slice.ensures.value ∙ c.in_ok-name.ensures))
