-- The sequence of one cycle is one row.
use Rattle.std.proofs.Common.{ℕ, Bool, List, sym, subst}
use Rattle.cbf_unfold.specs.shift_variables.Sequences.{IsSequence}
use Rattle.assume_queries.proofs.assume_sequences.assume_taken.Rows.{is_sequence}
use Rattle.assume_queries.proofs.assume_sequences.assume_taken.meeting.row_of.Goals as goal

pub rows_of-requires : goal.rows_of-requires
rows_of-requires c =
    let own = c.args.own.now in
    let r = c.requires.own in
    subst (λ (vs : List ℕ). IsSequence own.places vs c.as_slice.result.now 0 c.args.count) (sym c.as_slice-vars.ensures)
    (subst (λ (bs : List Bool). IsSequence own.places own.function.vars bs 0 c.args.count) (sym c.as_slice.ensures) (is_sequence r.net r.order r.output own r.function c.args.count c.args.bits.now r.gates r.inputs c.requires.bits.each))
