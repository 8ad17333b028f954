-- The names are distinct, and each row has a bit for each.
use Rattle.std.proofs.Common.{◌≡◌, ◌∙◌, ◌-◌, ℕ, suc, Bool, List, length, sym, ap, subst}
use Rattle.std.specs.List.{All}
use Rattle.circuit_theory.specs.Sequence.{sequence_rows}
use Rattle.base_tables.specs.Table.{AreDistinct}
use Rattle.cbf_unfold.specs.shift_variables.Sequences.{bits_at}
use Rattle.cbf_unfold.specs.shift_variables.cycle_variables.Cycles.{AreInCycles}
use Rattle.cbf_unfold.proofs.shift_variables.CycleRows.{rows_fit}
use Rattle.reset_form.proofs.reset_asked.CycleQueries.{numbers_apart}
use Rattle.reset_form.proofs.reset_asked.sequence.sequence_of.Goals as goal

fits : (last count : ℕ) (a : ℕ → ℕ → Bool) (rows : List (List Bool)) (size : ℕ) → rows ≡ sequence_rows last a count → count ≡ size → All (λ (row : List Bool). length row ≡ size) rows
fits last count a rows size is same =
    subst (λ (rs : List (List Bool)). All (λ (row : List Bool). length row ≡ size) rs) (sym is)
    (subst (λ k. All (λ (row : List Bool). length row ≡ k) (sequence_rows last a count)) same (rows_fit last a count 0 (suc last)))

pub invariant_of-result : goal.invariant_of-result
invariant_of-result c = record {
  distinct = subst (λ (ns : List (List ℕ)). AreDistinct ns) (sym c.in_ok-names.ensures) c.requires.distinct;
  fit = fits c.args.last c.len-count.result (λ i k. bits_at c.args.functions.now.places c.as_slice.result.now c.as_slice-bits.result.now i (c.args.last - k)) c.in_ok-rows.rows (length c.in_ok-names.names) c.in_ok-rows.ensures (c.len-count.ensures ∙ ap length (sym c.in_ok-names.ensures));
}

pub sides_at-requires-clause-distinct : goal.sides_at-requires-clause-distinct
sides_at-requires-clause-distinct c = numbers_apart c.args.functions.now.places c.args.query.now.vars c.requires.in_order.ordered

pub cycle_rows-requires-clause-each : goal.cycle_rows-requires-clause-each
cycle_rows-requires-clause-each c = ap length c.as_slice-bits.ensures ∙ (c.requires.each ∙ sym (ap length c.as_slice.ensures))

pub cycle_rows-requires-clause-in_order : goal.cycle_rows-requires-clause-in_order
cycle_rows-requires-clause-in_order c = subst (AreInCycles c.args.functions.now.places) (sym c.as_slice.ensures) c.requires.in_order

pub sides_at-requires-clause-each : goal.sides_at-requires-clause-each
sides_at-requires-clause-each c = sym c.requires.each ∙ ap length (sym c.as_slice-bits.ensures)

pub sides_at-requires-clause-within : goal.sides_at-requires-clause-within
sides_at-requires-clause-within c = c.requires.in_order.within
