-- The names are distinct, and each row has a bit for each.
use Rattle.std.proofs.Common.{◌≡◌, ◌∙◌, ℕ, suc, Bool, List, length, sym, ap, subst}
use Rattle.std.specs.List.{All}
use Rattle.circuit_theory.specs.Sequence.{sequence_rows}
use Rattle.base_tables.specs.Table.{AreDistinct}
use Rattle.plain_asked.specs.Sequences.{bits_at, IsSequence}
use Rattle.cbf_unfold.proofs.shift_variables.CycleRows.{rows_fit}
use Rattle.plain_asked.proofs.PairQueries.{numbers_apart}
use Rattle.plain_asked.proofs.witness.witness_of.Goals as goal

fits : (last count : ℕ) (a : ℕ → ℕ → Bool) (rows : List (List Bool)) (size : ℕ) → rows ≡ sequence_rows last a count → count ≡ size → All (λ (row : List Bool). length row ≡ size) rows
fits last count a rows size is same =
    subst (λ (rs : List (List Bool)). All (λ (row : List Bool). length row ≡ size) rs) (sym is)
    (subst (λ k. All (λ (row : List Bool). length row ≡ k) (sequence_rows last a count)) same (rows_fit last a count 0 (suc last)))

pub invariant_of-result : goal.invariant_of-result
invariant_of-result c = record {
  distinct = subst (λ (ns : List (List ℕ)). AreDistinct ns) (sym c.in_ok-names.ensures) c.requires.distinct;
  fit = fits c.args.last c.len-count.result (bits_at c.args.functions.now.places c.as_slice-vars.result.now c.as_slice-bits.result.now) c.in_ok-rows.rows (length c.in_ok-names.names) c.in_ok-rows.ensures (c.len-count.ensures ∙ ap length (sym c.in_ok-names.ensures));
}

pub rows_of-requires : goal.rows_of-requires
rows_of-requires c =
    let places = c.args.functions.now.places in
    let bits = c.as_slice-bits.result.now in
    subst (λ (n : ℕ). IsSequence places c.as_slice-vars.result.now bits c.args.last n) (sym c.len-count.ensures)
    (subst (λ (vs : List ℕ). IsSequence places vs bits c.args.last (length c.args.names.now)) (sym c.as_slice-vars.ensures)
    (subst (λ (bs : List Bool). IsSequence places c.args.query.now.vars bs c.args.last (length c.args.names.now)) (sym c.as_slice-bits.ensures) c.requires.sequence))

pub sides_at-requires-clause-each : goal.sides_at-requires-clause-each
sides_at-requires-clause-each c = sym c.requires.sequence.each ∙ ap length (sym c.as_slice-bits.ensures)

pub sides_at-requires-clause-within : goal.sides_at-requires-clause-within
sides_at-requires-clause-within c = c.requires.sequence.in_order.within

pub sides_at-requires-clause-distinct : goal.sides_at-requires-clause-distinct
sides_at-requires-clause-distinct c = numbers_apart c.args.functions.now.places c.args.query.now.vars c.requires.sequence.in_order.ordered
