use Rattle.std.proofs.Common.{◌+◌, ◌/◌, ◌%◌, ◌^◌, ◌<◌, ◌∙◌, Bool, [], ◌∷◌, sym, ap, ap₂, subst, arith}
use Rattle.flat_net.specs.Makes.{MakerView}
use Rattle.job_gen.specs.declared.pair_gen.cells.Cell.{Cell}
use Rattle.job_gen.specs.declared.pair_gen.kinds.Kind.{Kind}
use Rattle.job_gen.specs.pair_gen.Cells.{column_of}
use Rattle.job_gen.specs.pair_gen.Sketch.{IsSketch, gate_cell, signal_of, number_of, cover_number, covers_of}
use Rattle.job_gen.proofs.pair_gen.Drawn.{room_for, name_new, gate_more, reads_within, rows_fit}
use Rattle.job_gen.proofs.pair_gen.Numbers.{cell_at-gate, column_small}
use Rattle.job_gen.proofs.pair_gen.sketch.add_gates.Goals as goal

pub fanins_of-requires-clause-first : goal.fanins_of-requires-clause-first
fanins_of-requires-clause-first c =
    let low = c.loop-place-test.true in
    subst (λ (x : Cell). number_of x < 2 ^ 32) (sym c.column_of-first.ensures) (column_small c.args.plan.now.circuit c.loop-place.place (c.loop-place.place % 40) low (omega arith))

pub fanins_of-requires-clause-second : goal.fanins_of-requires-clause-second
fanins_of-requires-clause-second c =
    let low = c.loop-place-test.true in
    let column = c.second_of.ensures in
    subst (λ (x : Cell). number_of x < 2 ^ 32) (sym c.column_of-second.ensures) (column_small c.args.plan.now.circuit c.loop-place.place c.second_of.result low (omega arith))

pub gate-requires-clause-room : goal.gate-requires-clause-room
gate-requires-clause-room c =
    let low = c.loop-place-test.true in
    room_for c.args.plan.now.circuit c.args.plan.now.regroup c.args.plan.now.words.now (covers_of c.args.plan.now.circuit c.args.plan.now.regroup) c.loop-place.maker 40 120 c.loop-place.place c.loop-place.invariant (omega arith)

pub gate-requires-clause-new : goal.gate-requires-clause-new
gate-requires-clause-new c =
    let low = c.loop-place-test.true in
    name_new c.args.plan.now.circuit c.args.plan.now.regroup c.args.plan.now.words.now (covers_of c.args.plan.now.circuit c.args.plan.now.regroup) c.loop-place.maker 40 120 c.loop-place.place c.loop-place.invariant (omega arith) c.as_slice.result.now (gate_cell c.loop-place.place)
    (c.as_slice.ensures.value ∙ c.in_ok-name.ensures) (cell_at-gate (40 + 120 + c.loop-place.place) c.loop-place.place (omega arith))

pub gate-requires-clause-within : goal.gate-requires-clause-within
gate-requires-clause-within c =
    reads_within c.args.plan.now.circuit c.args.plan.now.regroup c.args.plan.now.words.now (covers_of c.args.plan.now.circuit c.args.plan.now.regroup) c.loop-place.maker c.loop-place.place c.loop-place.invariant c.in_ok-fanins.fanins
    (c.in_ok-fanins.ensures ∙ ap₂ (λ (x y : Cell). signal_of x ∷ signal_of y ∷ []) c.column_of-first.ensures (c.column_of-second.ensures ∙ ap (column_of c.args.plan.now.circuit (c.loop-place.place / 1680) (c.loop-place.place / 40 % 42)) c.second_of.ensures))

pub gate-requires-clause-fits : goal.gate-requires-clause-fits
gate-requires-clause-fits c =
    rows_fit c.args.plan.now.circuit c.args.plan.now.regroup c.args.plan.now.words.now c.loop-place.maker c.loop-place.place c.loop-place.invariant c.in_ok-fanins.fanins c.cover_number-cover.result
    (c.in_ok-fanins.ensures ∙ ap₂ (λ (x y : Cell). signal_of x ∷ signal_of y ∷ []) c.column_of-first.ensures (c.column_of-second.ensures ∙ ap (column_of c.args.plan.now.circuit (c.loop-place.place / 1680) (c.loop-place.place / 40 % 42)) c.second_of.ensures))
    (c.cover_number-cover.ensures ∙ ap₂ (λ (b : Bool) (k : Kind). cover_number b k) c.is_regrouped-regrouped.ensures c.kind_of.ensures)

pub loop-place-preserved : goal.loop-place-preserved
loop-place-preserved c =
    subst (λ (m : MakerView). IsSketch c.args.plan.now.circuit c.args.plan.now.regroup c.args.plan.now.words.now (covers_of c.args.plan.now.circuit c.args.plan.now.regroup) m 40 120 (c.loop-place.place + 1)) (sym c.in_ok-gate.ensures.ok)
    (gate_more c.args.plan.now.circuit c.args.plan.now.regroup c.args.plan.now.words.now (covers_of c.args.plan.now.circuit c.args.plan.now.regroup) c.loop-place.maker c.loop-place.place c.loop-place-test.true c.loop-place.invariant c.as_slice.result.now c.in_ok-fanins.fanins c.cover_number-cover.result
    (c.as_slice.ensures.value ∙ c.in_ok-name.ensures)
    (c.in_ok-fanins.ensures ∙ ap₂ (λ (x y : Cell). signal_of x ∷ signal_of y ∷ []) c.column_of-first.ensures (c.column_of-second.ensures ∙ ap (column_of c.args.plan.now.circuit (c.loop-place.place / 1680) (c.loop-place.place / 40 % 42)) c.second_of.ensures))
    (c.cover_number-cover.ensures ∙ ap₂ (λ (b : Bool) (k : Kind). cover_number b k) c.is_regrouped-regrouped.ensures c.kind_of.ensures))
