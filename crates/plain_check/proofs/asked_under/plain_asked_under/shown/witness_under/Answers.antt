-- The sequence is that of the difference, with the rows that are filled in.
use Rattle.std.proofs.Common.{◌≡◌, ◌∙◌, ◌<◌, ℕ, Bool, List, length, refl, sym, ap, subst}
use Rattle.std.specs.List.{All}
use Rattle.circuit_theory.specs.Query.{same_shift}
use Rattle.circuit_theory.specs.Sequence.{sequence_rows}
use Rattle.pair_decide.specs.declared.query.Query.{Query}
use Rattle.witness_report.specs.declared.witness.Witness.{Witness}
use Rattle.obligations.specs.declared.obligation.Obligation.{Obligation}
use Rattle.obligations.specs.declared.obligation.Difference.{Difference}
use Rattle.cbf_unfold.specs.shift_variables.Variables.{variables_of}
use Rattle.cbf_unfold.specs.shift_variables.Sequences.{bits_at}
use Rattle.assume_laws.specs.Sequences.{filled}
use Rattle.assume_queries.specs.assume_sequences.Filled.{bit_of}
use Rattle.plain_asked.specs.declared.functions.Functions.{Functions}
use Rattle.plain_asked.specs.Sequences.{IsWitnessOf}
use Rattle.plain_check.specs.asked_under.Differences.{HasRows}
use Rattle.plain_check.specs.asked_under.plain_asked_under.Shown.{CanBeFilled, IsFilledSequence}
use Rattle.plain_check.proofs.asked_under.Shown.{asked_there, under_there, holds_there, with_other_rows, fits}
use Rattle.plain_check.proofs.asked_under.plain_asked_under.shown.witness_under.Goals as goal

-- the rows of the query's bits are filled in
module _ (f : Functions) (columns : List (List ℕ)) (meeting : List Bool) (same : length meeting ≡ length columns) (d : Difference) (u : Obligation) (t q : Query) (v : Witness) (is : IsWitnessOf f.aig f.places q d.bits u.name u.size columns v)
    (sides : List ℕ) (read : sides ≡ t.vars) (made : List (List Bool)) (fill : (last : ℕ) (x : ℕ → ℕ → Bool) → v.stimulus.rows ≡ sequence_rows last x (length meeting) → made ≡ sequence_rows last (filled same_shift (variables_of f.places sides) (bit_of meeting) x) (length meeting)) where
  rows : made ≡ sequence_rows u.size (filled same_shift (variables_of f.places t.vars) (bit_of meeting) (bits_at f.places q.vars d.bits)) (length columns)
  rows =
      fill u.size (bits_at f.places q.vars d.bits) (is.rows_are ∙ ap (λ n. sequence_rows u.size (bits_at f.places q.vars d.bits) n) (sym same))
      ∙ (ap (λ n. sequence_rows u.size (filled same_shift (variables_of f.places sides) (bit_of meeting) (bits_at f.places q.vars d.bits)) n) same
      ∙ ap (λ (vs : List ℕ). sequence_rows u.size (filled same_shift (variables_of f.places vs) (bit_of meeting) (bits_at f.places q.vars d.bits)) (length columns)) read)

  each_fits : All (λ (row : List Bool). length row ≡ length v.stimulus.names) made
  each_fits = fits u.size (length columns) (filled same_shift (variables_of f.places t.vars) (bit_of meeting) (bits_at f.places q.vars d.bits)) made (length v.stimulus.names) rows (ap length (sym is.names_are))

  shown : (w : Witness) → HasRows v made w → IsFilledSequence f columns meeting u t q d.bits w
  shown w has = with_other_rows f.aig columns u.name q d.bits u.size v.stimulus.rows made _ v w (record { pair_is = is.pair_is; cycle_is = is.cycle_is; left_is = is.left_is; right_is = is.right_is; names_are = is.names_are; rows_are = refl }) has rows

pub query_at-requires : goal.query_at-requires
query_at-requires c = asked_there (CanBeFilled c.args.functions.now c.args.columns.now c.args.difference.now) c.requires.shown

pub query_at-requires-2 : goal.query_at-requires-2
query_at-requires-2 c = under_there (CanBeFilled c.args.functions.now c.args.columns.now c.args.difference.now) c.requires.shown

pub witness_of-requires-clause-left : goal.witness_of-requires-clause-left
witness_of-requires-clause-left c = (holds_there (CanBeFilled c.args.functions.now c.args.columns.now c.args.difference.now) c.requires.shown c.query_at.ensures c.query_at-2.ensures).left

pub witness_of-requires-clause-right : goal.witness_of-requires-clause-right
witness_of-requires-clause-right c = (holds_there (CanBeFilled c.args.functions.now c.args.columns.now c.args.difference.now) c.requires.shown c.query_at.ensures c.query_at-2.ensures).right

pub witness_of-requires-clause-sequence : goal.witness_of-requires-clause-sequence
witness_of-requires-clause-sequence c = (holds_there (CanBeFilled c.args.functions.now c.args.columns.now c.args.difference.now) c.requires.shown c.query_at.ensures c.query_at-2.ensures).sequence

pub fill_shifts-requires : goal.fill_shifts-requires
fill_shifts-requires c =
    subst (All (λ v. v < length c.args.functions.now.places)) (sym c.as_slice-vars.ensures)
    (holds_there (CanBeFilled c.args.functions.now c.args.columns.now c.args.difference.now) c.requires.shown c.query_at.ensures c.query_at-2.ensures).within

pub with_rows-requires : goal.with_rows-requires
with_rows-requires c =
    each_fits c.args.functions.now c.args.columns.now c.args.meeting.now c.requires.row c.args.difference.now c.query_at-2.result.0.now c.query_at.result.1.now c.query_at-2.result.1.now c.in_ok-witness.witness c.in_ok-witness.ensures c.as_slice-vars.result.now
    c.as_slice-vars.ensures c.in_ok-rows.rows c.in_ok-rows.ensures

pub returns : goal.returns
returns c =
    let p = c.query_at.result in
    let u = c.query_at-2.result in
    record {
      plain = p.0.now;
      obligation = u.0.now;
      sides = p.1.now;
      query = u.1.now;
      asked_at = c.query_at.ensures;
      under_at = c.query_at-2.ensures;
      holds = shown c.args.functions.now c.args.columns.now c.args.meeting.now c.requires.row c.args.difference.now u.0.now p.1.now u.1.now c.in_ok-witness.witness c.in_ok-witness.ensures c.as_slice-vars.result.now c.as_slice-vars.ensures c.in_ok-rows.rows c.in_ok-rows.ensures
          c.with_rows.result c.with_rows.ensures;
    }
