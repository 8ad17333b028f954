use Rattle.std.proofs.Common.{◌≡◌, ◌+◌, ◌∙◌, [], sym, ap, subst, arith}
use Rattle.flat_net.specs.Makes.{MakerView}
use Rattle.job_gen.specs.declared.pair_gen.cells.Cell.TheVariants as cell
use Rattle.job_gen.specs.pair_gen.Sketch.{IsSketch, cell_at}
use Rattle.job_gen.proofs.pair_gen.Drawn.{room_for, name_new, input_more}
use Rattle.job_gen.proofs.pair_gen.Numbers.{cell_at-input}
use Rattle.job_gen.proofs.pair_gen.sketch.add_inputs.Goals as goal

pub input-requires-clause-room : goal.input-requires-clause-room
input-requires-clause-room c =
    let low = c.loop-column-test.true in
    room_for c.args.plan.now.circuit c.args.plan.now.regroup c.args.plan.now.words.now [] c.loop-column.maker c.loop-column.column 0 0 c.loop-column.invariant (omega arith)

pub input-requires-clause-new : goal.input-requires-clause-new
input-requires-clause-new c =
    let low = c.loop-column-test.true in
    let place : c.loop-column.column + 0 + 0 ≡ c.loop-column.column = omega arith in
    name_new c.args.plan.now.circuit c.args.plan.now.regroup c.args.plan.now.words.now [] c.loop-column.maker c.loop-column.column 0 0 c.loop-column.invariant (omega arith) c.as_slice.result.now (cell.Input c.loop-column.column)
    (c.as_slice.ensures.value ∙ c.in_ok-name.ensures) (ap cell_at place ∙ cell_at-input c.loop-column.column low)

pub loop-column-preserved : goal.loop-column-preserved
loop-column-preserved c =
    subst (λ (m : MakerView). IsSketch c.args.plan.now.circuit c.args.plan.now.regroup c.args.plan.now.words.now [] m (c.loop-column.column + 1) 0 0) (sym c.in_ok-input.ensures.ok)
    (input_more c.args.plan.now.circuit c.args.plan.now.regroup c.args.plan.now.words.now [] c.loop-column.maker c.loop-column.column c.loop-column-test.true c.loop-column.invariant c.as_slice.result.now (c.as_slice.ensures.value ∙ c.in_ok-name.ensures))
