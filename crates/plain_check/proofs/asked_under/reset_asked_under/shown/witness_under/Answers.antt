-- The sequence is that of the difference, with the rows that are filled in, and the power-ups are by the same bits.
use Rattle.std.proofs.Common.{◌≡◌, ◌∙◌, ◌-◌, ◌<◌, ℕ, Bool, List, length, Result, Ok, Err, IfOk, refl, sym, ap, subst}
use Rattle.std.specs.List.{All}
use Rattle.circuit_theory.specs.Query.{same_shift}
use Rattle.pair_decide.specs.declared.query.Query.{Query}
use Rattle.witness_report.specs.declared.witness.Witness.{Witness}
use Rattle.obligations.specs.declared.outcome.verdict.ResetWitness.{ResetWitness}
use Rattle.obligations.specs.declared.obligation.Obligation.{Obligation}
use Rattle.obligations.specs.declared.obligation.Difference.{Difference}
use Rattle.sec_setup.specs.declared.setup.Setup.{Setup}
use Rattle.circuit_laws.specs.reset_laws.Reset.{reset_rows}
use Rattle.cbf_unfold.specs.shift_variables.Variables.{variables_of}
use Rattle.cbf_unfold.specs.shift_variables.Sequences.{bits_at}
use Rattle.assume_laws.specs.Sequences.{filled}
use Rattle.assume_queries.specs.assume_sequences.Filled.{bit_of}
use Rattle.plain_asked.specs.Sequences.{IsQueryAt}
use Rattle.reset_form.specs.declared.reset_functions.bases.Bases.{Bases}
use Rattle.reset_form.specs.declared.reset_functions.functions.Functions.{Functions}
use Rattle.reset_form.specs.reset_asked.Sequences.{IsSequenceOf}
use Rattle.plain_check.specs.asked_under.Differences.{HasRows}
use Rattle.plain_check.specs.asked_under.reset_asked_under.Shown.{CanBeFilled, HasPowers, IsFilledSequence, IsFilledWitness, IsWitnessAtUnder}
use Rattle.plain_check.proofs.asked_under.Shown.{asked_there, under_there, holds_there, with_other_rows, fits}
use Rattle.plain_check.proofs.asked_under.reset_asked_under.shown.witness_under.Goals as goal

-- the rows of the query's bits are filled in
module _ (s : Setup) (f : Functions) (meeting : List Bool) (same : length meeting ≡ length s.columns) (d : Difference) (cycle : ℕ) (ends : cycle ≡ d.query) (u : Obligation) (t q : Query) (v : Witness) (is : IsSequenceOf f.aig f.places q d.bits u.name cycle s.columns v)
    (sides : List ℕ) (read : sides ≡ t.vars) (made : List (List Bool)) (fill : (last : ℕ) (x : ℕ → ℕ → Bool) → v.stimulus.rows ≡ reset_rows last x (length meeting) → made ≡ reset_rows last (filled same_shift (variables_of f.places sides) (bit_of meeting) x) (length meeting)) where
  rows : made ≡ reset_rows d.query (filled same_shift (variables_of f.places t.vars) (bit_of meeting) (bits_at f.places q.vars d.bits)) (length s.columns)
  rows =
      fill cycle (bits_at f.places q.vars d.bits) (is.rows_are ∙ ap (λ n. reset_rows cycle (bits_at f.places q.vars d.bits) n) (sym same))
      ∙ (ap (λ n. reset_rows cycle (filled same_shift (variables_of f.places sides) (bit_of meeting) (bits_at f.places q.vars d.bits)) n) same
      ∙ (ap (λ (vs : List ℕ). reset_rows cycle (filled same_shift (variables_of f.places vs) (bit_of meeting) (bits_at f.places q.vars d.bits)) (length s.columns)) read
      ∙ ap (λ n. reset_rows n (filled same_shift (variables_of f.places t.vars) (bit_of meeting) (bits_at f.places q.vars d.bits)) (length s.columns)) ends))

  each_fits : All (λ (row : List Bool). length row ≡ length v.stimulus.names) made
  each_fits =
      fits d.query (length s.columns) (λ i k. filled same_shift (variables_of f.places t.vars) (bit_of meeting) (bits_at f.places q.vars d.bits) i (d.query - k)) made (length v.stimulus.names) rows (ap length (sym is.names_are))

  shown : (b : Bases) (w : Witness) → HasRows v made w → (x : ResetWitness) → HasPowers s b f q d.bits w x → IsFilledWitness s b f meeting u t q d x
  shown b w has x powers = record {
    sequence =
        subst (λ (y : Witness). IsFilledSequence f s.columns meeting u t q d y) (sym powers.witness_is)
        (with_other_rows f.aig s.columns u.name q d.bits d.query v.stimulus.rows made _ v w (record { pair_is = is.pair_is; cycle_is = is.cycle_is ∙ ends; left_is = is.left_is; right_is = is.right_is; names_are = is.names_are; rows_are = refl }) has rows);
    left_power_is = powers.left_power_is;
    right_power_is = powers.right_power_is;
  }

  -- also where the power-ups may be refused
  all_shown : (b : Bases) (asked under : List Obligation) (p : Obligation) → IsQueryAt asked d p t → IsQueryAt under d u q → (w : Witness) → HasRows v made w → {E : Type 0} (r : Result ResetWitness E) → IfOk r (HasPowers s b f q d.bits w) →
      IfOk r (IsWitnessAtUnder s b f asked under meeting d)
  all_shown b asked under p asked_at under_at w has (Ok x) powers = record { plain = p; obligation = u; sides = t; query = q; asked_at = asked_at; under_at = under_at; holds = shown b w has x powers }
  all_shown b asked under p asked_at under_at w has (Err e) h = h

pub query_at-requires : goal.query_at-requires
query_at-requires c = asked_there (CanBeFilled c.args.functions.now c.args.difference.now) c.requires.shown

pub query_at-requires-2 : goal.query_at-requires-2
query_at-requires-2 c = under_there (CanBeFilled c.args.functions.now c.args.difference.now) c.requires.shown

pub cycle_of-cycle-requires : goal.cycle_of-cycle-requires
cycle_of-cycle-requires c = (holds_there (CanBeFilled c.args.functions.now c.args.difference.now) c.requires.shown c.query_at.ensures c.query_at-2.ensures).cycle

pub sequence_of-requires-clause-left : goal.sequence_of-requires-clause-left
sequence_of-requires-clause-left c = (holds_there (CanBeFilled c.args.functions.now c.args.difference.now) c.requires.shown c.query_at.ensures c.query_at-2.ensures).left

pub sequence_of-requires-clause-right : goal.sequence_of-requires-clause-right
sequence_of-requires-clause-right c = (holds_there (CanBeFilled c.args.functions.now c.args.difference.now) c.requires.shown c.query_at.ensures c.query_at-2.ensures).right

pub sequence_of-requires-clause-each : goal.sequence_of-requires-clause-each
sequence_of-requires-clause-each c = (holds_there (CanBeFilled c.args.functions.now c.args.difference.now) c.requires.shown c.query_at.ensures c.query_at-2.ensures).each

pub sequence_of-requires-clause-in_order : goal.sequence_of-requires-clause-in_order
sequence_of-requires-clause-in_order c = (holds_there (CanBeFilled c.args.functions.now c.args.difference.now) c.requires.shown c.query_at.ensures c.query_at-2.ensures).in_order

pub fill_cycles-requires : goal.fill_cycles-requires
fill_cycles-requires c =
    subst (All (λ v. v < length c.args.functions.now.places)) (sym c.as_slice-vars.ensures) (holds_there (CanBeFilled c.args.functions.now c.args.difference.now) c.requires.shown c.query_at.ensures c.query_at-2.ensures).within

pub with_rows-filled-requires : goal.with_rows-filled-requires
with_rows-filled-requires c =
    each_fits c.args.setup.now c.args.functions.now c.args.meeting.now c.requires.row c.args.difference.now c.cycle_of-cycle.result c.cycle_of-cycle.ensures c.query_at-2.result.0.now c.query_at.result.1.now c.query_at-2.result.1.now c.in_ok-witness.witness
    c.in_ok-witness.ensures c.as_slice-vars.result.now c.as_slice-vars.ensures c.in_ok-rows.rows c.in_ok-rows.ensures

pub with_powers-requires-clause-each : goal.with_powers-requires-clause-each
with_powers-requires-clause-each c = (holds_there (CanBeFilled c.args.functions.now c.args.difference.now) c.requires.shown c.query_at.ensures c.query_at-2.ensures).each

pub with_powers-requires-clause-in_order : goal.with_powers-requires-clause-in_order
with_powers-requires-clause-in_order c = (holds_there (CanBeFilled c.args.functions.now c.args.difference.now) c.requires.shown c.query_at.ensures c.query_at-2.ensures).in_order

pub returns : goal.returns
returns c =
    let p = c.query_at.result in
    let u = c.query_at-2.result in
    all_shown c.args.setup.now c.args.functions.now c.args.meeting.now c.requires.row c.args.difference.now c.cycle_of-cycle.result c.cycle_of-cycle.ensures u.0.now p.1.now u.1.now c.in_ok-witness.witness c.in_ok-witness.ensures c.as_slice-vars.result.now c.as_slice-vars.ensures c.in_ok-rows.rows
    c.in_ok-rows.ensures c.args.bases c.args.asked.now c.args.under.now p.0.now c.query_at.ensures c.query_at-2.ensures c.with_rows-filled.result c.with_rows-filled.ensures c.with_powers.result c.with_powers.ensures
