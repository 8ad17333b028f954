-- The names are distinct, and each row has a bit for each.
use Rattle.std.proofs.Common.{◌∙◌, ◌<◌, ℕ, Bool, List, length, refl, sym, ap, subst}
use Rattle.std.specs.List.{All}
use Rattle.base_tables.specs.Table.{AreDistinct}
use Rattle.circuit_theory.specs.Sequence.{sequence_rows}
use Rattle.circuit_theory.specs.Frame.{bits_as_shifts}
use Rattle.event_nodes.specs.event_variables.Variables.{variables_of}
use Rattle.assume_laws.specs.Sequences.{filled_frame}
use Rattle.event_under.specs.event_shown_under.assume_sequences.Filled.{bit_of}
use Rattle.event_form.proofs.event_findings.event_witness.Told.{rows_fit}
use Rattle.event_under.proofs.event_under_form.event_witness_under.sequence.witness_of.Goals as goal

pub rows_under-requires-clause-each : goal.rows_under-requires-clause-each
rows_under-requires-clause-each c = ap length c.as_slice-bits.ensures ∙ c.requires.each

pub rows_under-requires-clause-sides : goal.rows_under-requires-clause-sides
rows_under-requires-clause-sides c = subst (All (λ (v : ℕ). v < length c.args.events.now.places)) (sym c.as_slice-sides.ensures) c.requires.sides

pub invariant_of-result : goal.invariant_of-result
invariant_of-result c = record {
  distinct = subst (λ (ns : List (List ℕ)). AreDistinct ns) (sym c.in_ok-names.ensures) c.requires.distinct;
  fit = rows_fit c.args.last (length c.args.meeting.now) (bits_as_shifts (filled_frame (variables_of c.args.events.now c.as_slice-sides.result.now) (variables_of c.args.ready.made.events c.args.ready.made.vars.items) (bit_of c.args.meeting.now) c.as_slice-bits.result.now)) c.in_ok-rows.rows
      (length c.in_ok-names.names) c.in_ok-rows.ensures (c.requires.row ∙ ap length (sym c.in_ok-names.ensures));
}

pub returns : goal.returns
returns c = record {
  pair_is = refl;
  left_is = refl;
  right_is = refl;
  cycle_is = refl;
  names_are = c.in_ok-names.ensures;
  rows_are = c.in_ok-rows.ensures ∙ (
      ap (λ (vs : List ℕ). Rows vs c.as_slice-bits.result.now (length c.args.meeting.now)) c.as_slice-sides.ensures
      ∙ (ap (λ (bs : List Bool). Rows c.args.sides.now bs (length c.args.meeting.now)) c.as_slice-bits.ensures ∙ ap (λ n. Rows c.args.sides.now c.args.bits.now n) c.requires.row)
      );
}
  where
    Rows : List ℕ → List Bool → ℕ → List (List Bool)
    Rows sides bits count = sequence_rows c.args.last (bits_as_shifts (filled_frame (variables_of c.args.events.now sides) (variables_of c.args.ready.made.events c.args.ready.made.vars.items) (bit_of c.args.meeting.now) bits)) count
