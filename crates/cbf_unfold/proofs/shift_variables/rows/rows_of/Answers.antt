-- Cycle by cycle one row more, of the variables that stand behind those of the cycles before.
use Rattle.std.proofs.Common.{◌≡◌, ◌≤◌, ◌+◌, ◌∙◌, ℕ, suc, Bool, List, [], ◌∷◌, ◌++◌, sym, ap, arith, add-one}
use Rattle.circuit_theory.specs.Sequence.{sequence_row, sequence_rows_from}
use Rattle.cbf_unfold.specs.shift_variables.Sequences.{bits_at}
use Rattle.cbf_unfold.proofs.shift_variables.CycleRows.{at_first, at_next, row_is, rows_more, part_each, part_within, part_inputs, part_distinct}
use Rattle.cbf_unfold.proofs.shift_variables.rows.rows_of.Goals as goal

pub loop-cycle-init : goal.loop-cycle-init
loop-cycle-init c = record { stands = at_first c.args.places.now c.args.vars.now c.args.bits.now c.args.last c.args.count c.requires; rows = c.new-rows.ensures }

pub loop-cycle-preserved : goal.loop-cycle-preserved
loop-cycle-preserved c =
    let places = c.args.places.now in
    let vars = c.args.vars.now in
    let bits = c.args.bits.now in
    let last = c.args.last in
    let count = c.args.count in
    let cycle = c.loop-cycle.cycle in
    let early : cycle ≤ last = omega (arith, c.loop-cycle-test.true, c.from-cycle-end.ensures) in
    let a : ℕ → ℕ → Bool = bits_at places vars bits in
    let row : c.in_ok-row.row ≡ sequence_row last a cycle 0 count =
    row_is places vars bits last count c.requires cycle c.loop-cycle.at c.end_of_shift-end.result early c.loop-cycle.invariant.stands c.end_of_shift-end.ensures c.in_ok-row.row c.in_ok-row.ensures.size c.in_ok-row.ensures.bits in
    let more = rows_more last a count 0 cycle in
    record {
      stands = at_next places vars bits last count c.requires cycle c.loop-cycle.at c.end_of_shift-end.result early c.loop-cycle.invariant.stands c.end_of_shift-end.ensures;
      rows =
          c.in_ok-push.ensures.ok
          ∙ (ap (λ (rows : List (List Bool)). rows ++ c.in_ok-row.row ∷ []) c.loop-cycle.invariant.rows
          ∙ (ap (λ (r : List Bool). sequence_rows_from last a count 0 cycle ++ r ∷ []) row
          ∙ (ap (λ k. sequence_rows_from last a count 0 cycle ++ sequence_row last a k 0 count ∷ []) (let e : cycle ≡ 0 + cycle = omega arith in e)
          ∙ (sym more ∙ ap (λ n. sequence_rows_from last a count 0 n) (sym (add-one cycle))))));
    }

pub returns : goal.returns
returns c =
    let all : c.loop-cycle.cycle ≡ suc c.args.last = omega (arith, c.loop-cycle-test.false, c.loop-cycle.auto.cycle-end, c.from-cycle-end.ensures) in
    c.loop-cycle.invariant.rows ∙ ap (λ n. sequence_rows_from c.args.last (bits_at c.args.places.now c.args.vars.now c.args.bits.now) c.args.count 0 n) all

pub row_of-requires-clause-each : goal.row_of-requires-clause-each
row_of-requires-clause-each c =
    let early : c.loop-cycle.cycle ≤ c.args.last = omega (arith, c.loop-cycle-test.true, c.from-cycle-end.ensures) in
    part_each c.args.places.now c.args.vars.now c.args.bits.now c.args.last c.args.count c.requires c.loop-cycle.cycle c.loop-cycle.at c.end_of_shift-end.result early c.loop-cycle.invariant.stands c.end_of_shift-end.ensures

pub row_of-requires-clause-within : goal.row_of-requires-clause-within
row_of-requires-clause-within c =
    let early : c.loop-cycle.cycle ≤ c.args.last = omega (arith, c.loop-cycle-test.true, c.from-cycle-end.ensures) in
    part_within c.args.places.now c.args.vars.now c.args.bits.now c.args.last c.args.count c.requires c.loop-cycle.cycle c.loop-cycle.at c.end_of_shift-end.result early c.loop-cycle.invariant.stands c.end_of_shift-end.ensures

pub row_of-requires-clause-inputs : goal.row_of-requires-clause-inputs
row_of-requires-clause-inputs c =
    let early : c.loop-cycle.cycle ≤ c.args.last = omega (arith, c.loop-cycle-test.true, c.from-cycle-end.ensures) in
    part_inputs c.args.places.now c.args.vars.now c.args.bits.now c.args.last c.args.count c.requires c.loop-cycle.cycle c.loop-cycle.at c.end_of_shift-end.result early c.loop-cycle.invariant.stands c.end_of_shift-end.ensures

pub row_of-requires-clause-distinct : goal.row_of-requires-clause-distinct
row_of-requires-clause-distinct c =
    let early : c.loop-cycle.cycle ≤ c.args.last = omega (arith, c.loop-cycle-test.true, c.from-cycle-end.ensures) in
    part_distinct c.args.places.now c.args.vars.now c.args.bits.now c.args.last c.args.count c.requires c.loop-cycle.cycle c.loop-cycle.at c.end_of_shift-end.result early c.loop-cycle.invariant.stands c.end_of_shift-end.ensures

pub end_of_shift-end-requires-clause-within : goal.end_of_shift-end-requires-clause-within
end_of_shift-end-requires-clause-within c = c.requires.in_order.within
