-- Cycle by cycle one row more, of the variables that stand behind those of the cycles before.
use Rattle.std.proofs.Common.{◌≡◌, ◌≤◌, ◌+◌, ◌-◌, ◌∙◌, ℕ, suc, Bool, List, [], ◌∷◌, ◌++◌, sym, ap, arith, add-one}
use Rattle.circuit_theory.specs.Sequence.{sequence_row, sequence_rows_from}
use Rattle.cbf_unfold.specs.shift_variables.Sequences.{bits_at}
use Rattle.cbf_unfold.proofs.shift_variables.CycleRows.{rows_more}
use Rattle.cbf_unfold.proofs.shift_variables.cycle_variables.CycleWindows.{at_first, at_next, row_is, part_each, part_within, part_distinct}
use Rattle.cbf_unfold.proofs.shift_variables.cycle_variables.rows.cycle_rows.Goals as goal

pub loop-cycle-init : goal.loop-cycle-init
loop-cycle-init c = record { stands = at_first c.args.places.now c.args.vars.now c.args.bits.now c.requires.each c.requires.in_order; rows = c.new-rows.ensures }

pub bits_from-requires : goal.bits_from-requires
bits_from-requires c =
    let places = c.args.places.now in
    let vars = c.args.vars.now in
    let bits = c.args.bits.now in
    let at = c.loop-cycle.at in
    let to = c.end_of_shift-end.result in
    record {
      each = part_each places vars bits c.requires.each c.requires.in_order c.loop-cycle.cycle at to c.loop-cycle.invariant.stands c.end_of_shift-end.ensures;
      within = part_within places vars bits c.requires.each c.requires.in_order c.loop-cycle.cycle at to c.loop-cycle.invariant.stands c.end_of_shift-end.ensures;
      distinct = part_distinct places vars bits c.requires.each c.requires.in_order c.loop-cycle.cycle at to c.loop-cycle.invariant.stands c.end_of_shift-end.ensures;
    }

pub loop-cycle-preserved : goal.loop-cycle-preserved
loop-cycle-preserved c =
    let places = c.args.places.now in
    let vars = c.args.vars.now in
    let bits = c.args.bits.now in
    let last = c.args.last in
    let count = c.args.count in
    let cycle = c.loop-cycle.cycle in
    let early : cycle ≤ last = omega (arith, c.loop-cycle-test.true, c.from-cycle-end.ensures) in
    let a : ℕ → ℕ → Bool = λ i k. bits_at places vars bits i (last - k) in
    let row : c.in_ok-row.row.items ≡ sequence_row last a cycle 0 count =
    row_is places vars bits c.requires.each c.requires.in_order cycle c.loop-cycle.at c.end_of_shift-end.result c.loop-cycle.invariant.stands c.end_of_shift-end.ensures last count c.in_ok-row.row.items early c.in_ok-row.ensures.size c.in_ok-row.ensures.bits in
    let more = rows_more last a count 0 cycle in
    record {
      stands = at_next places vars bits c.requires.each c.requires.in_order cycle c.loop-cycle.at c.end_of_shift-end.result c.loop-cycle.invariant.stands c.end_of_shift-end.ensures;
      rows =
          c.in_ok-push.ensures.ok
          ∙ (ap (λ (rows : List (List Bool)). rows ++ c.from_vec.result ∷ []) c.loop-cycle.invariant.rows
          ∙ (ap (λ (r : List Bool). sequence_rows_from last a count 0 cycle ++ r ∷ []) (c.from_vec.ensures ∙ row)
          ∙ (ap (λ k. sequence_rows_from last a count 0 cycle ++ sequence_row last a k 0 count ∷ []) (let e : cycle ≡ 0 + cycle = omega arith in e)
          ∙ (sym more ∙ ap (λ n. sequence_rows_from last a count 0 n) (sym (add-one cycle))))));
    }

pub returns : goal.returns
returns c =
    let all : c.loop-cycle.cycle ≡ suc c.args.last = omega (arith, c.loop-cycle-test.false, c.loop-cycle.auto.cycle-end, c.from-cycle-end.ensures) in
    c.loop-cycle.invariant.rows ∙ ap (λ n. sequence_rows_from c.args.last (λ i k. bits_at c.args.places.now c.args.vars.now c.args.bits.now i (c.args.last - k)) c.args.count 0 n) all
