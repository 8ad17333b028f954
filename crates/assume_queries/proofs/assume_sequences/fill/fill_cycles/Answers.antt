-- Cycle by cycle one row more, which stays or is the meeting row.
use Rattle.std.proofs.Common.{◌≡◌, ◌∙◌, ◌-◌, ◌<◌, suc, false, length, refl, sym, ap, arith}
use Rattle.std.proofs.lemmas.Option.{get_or_from_slice_get}
use Rattle.circuit_theory.specs.Query.{same_shift}
use Rattle.circuit_theory.specs.Sequence.{sequence_rows_from}
use Rattle.cbf_unfold.specs.shift_variables.Variables.{variables_of}
use Rattle.cbf_unfold.proofs.shift_variables.Reading.{item_at}
use Rattle.assume_laws.specs.Sequences.{filled}
use Rattle.assume_queries.specs.assume_sequences.Filled.{bit_of}
use Rattle.assume_queries.proofs.assume_sequences.FilledRows.{rows_size, cycles_more}
use Rattle.assume_queries.proofs.assume_sequences.fill.fill_cycles.Goals as goal

pub loop-cycle-init : goal.loop-cycle-init
loop-cycle-init c = λ last x e. c.new-made.ensures

pub loop-cycle-preserved : goal.loop-cycle-preserved
loop-cycle-preserved c = λ last x e.
    let rows = c.args.rows.now in
    let cycle = c.loop-cycle.cycle in
    let sides = variables_of c.args.table.now c.args.sides.now in
    let size : c.len-size.result ≡ length rows = c.len-size.ensures in
    let inside : cycle < length rows = omega (arith, c.loop-cycle-test.true, size) in
    let has = sym (get_or_from_slice_get c.in_ok-met.met.items cycle c.index.result.now false (item_at c.in_ok-met.met.items c.in_ok-met.met.items cycle c.index.result.now refl (omega (arith, inside, size, c.in_ok-met.ensures.size)) c.index.ensures)) ∙ c.in_ok-met.ensures.met cycle (omega (arith, inside, size)) in
    cycles_more sides c.args.meeting.now rows c.loop-cycle.made c.push.new.self c.in_ok-row.row cycle c.index.result.now inside has c.in_ok-row.ensures c.in_ok-push.ensures.ok last x e (c.loop-cycle.invariant last x e)

pub returns : goal.returns
returns c = λ last x e.
    let long = rows_size last (λ i k. x i (last - k)) (length c.args.meeting.now) c.args.rows.now e in
    let all : c.loop-cycle.cycle ≡ suc last = omega (arith, c.loop-cycle-test.false, c.loop-cycle.auto.cycle-end, c.len-size.ensures, long) in
    c.loop-cycle.invariant last x e
    ∙ ap (λ n. sequence_rows_from last (λ i k. filled same_shift (variables_of c.args.table.now c.args.sides.now) (bit_of c.args.meeting.now) x i (last - k)) (length c.args.meeting.now) 0 n) all
