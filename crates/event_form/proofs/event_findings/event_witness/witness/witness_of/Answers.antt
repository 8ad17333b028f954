-- The names are distinct, and each row has a bit for each; the rows, the values and the name are those of the difference.
use Rattle.std.proofs.Common.{◌∙◌, ℕ, Bool, List, length, refl, sym, ap, subst}
use Rattle.base_tables.specs.Table.{AreDistinct}
use Rattle.circuit_theory.specs.EventFrames.{frame_of}
use Rattle.circuit_theory.specs.Frame.{bits_as_shifts}
use Rattle.event_nodes.specs.event_variables.Variables.{variables_of}
use Rattle.event_form.specs.event_findings.event_witness.Sequences.{AreSidesOf}
use Rattle.event_form.proofs.event_findings.event_witness.Told.{rows_fit, rows_told}
use Rattle.event_form.proofs.event_findings.event_witness.witness.witness_of.Goals as goal

pub invariant_of-result : goal.invariant_of-result
invariant_of-result c = record {
  distinct = subst (λ (ns : List (List ℕ)). AreDistinct ns) (sym c.in_ok-names.ensures) c.requires.distinct;
  fit = rows_fit c.args.last c.len.result (bits_as_shifts (frame_of (variables_of c.graph.result.now c.as_slice-vars.result.now) c.as_slice-bits.result.now)) c.in_ok-rows.rows (length c.in_ok-names.names) c.in_ok-rows.ensures (c.len.ensures ∙ ap length (sym c.in_ok-names.ensures));
}

pub returns : goal.returns
returns c = record {
  pair_is = c.in_ok-pair.ensures;
  cycle_is = refl;
  sides = subst (λ (bs : List Bool). AreSidesOf c.args.events.now.events c.args.query.now bs c.in_ok-sides.sides) c.as_slice-bits.ensures c.in_ok-sides.ensures;
  names_are = c.in_ok-names.ensures;
  rows_are = c.in_ok-rows.ensures ∙ rows_told c.args.last c.graph.result.now c.args.events.now.events c.as_slice-vars.result.now c.args.query.now.vars c.as_slice-bits.result.now c.args.bits.now c.len.result (length c.args.names.now) c.graph.ensures c.as_slice-vars.ensures c.as_slice-bits.ensures c.len.ensures;
}
