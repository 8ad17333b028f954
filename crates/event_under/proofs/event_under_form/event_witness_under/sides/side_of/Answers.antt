-- The value over the cone.
use Rattle.std.proofs.Common.{◌≢◌, ◌∙◌, ℕ, [], ◌∷◌, length, refl, sym, ap, subst}
use Rattle.std.specs.List.{AllPairs}
use Rattle.aig.specs.lane_eval.Tables.{Covers}
use Rattle.event_form.proofs.event_findings.event_witness.Covering.{bit_told}
use Rattle.event_under.proofs.event_under_form.event_witness_under.sides.side_of.Goals as goal

pub value_in_cone-requires-clause-each : goal.value_in_cone-requires-clause-each
value_in_cone-requires-clause-each c = c.requires.each ∙ sym (ap length c.as_slice.ensures)

pub value_in_cone-requires-clause-distinct : goal.value_in_cone-requires-clause-distinct
value_in_cone-requires-clause-distinct c = subst (AllPairs (λ (u v : ℕ). u ≢ v)) (sym c.as_slice.ensures) c.requires.distinct

pub value_in_cone-requires-clause-covers : goal.value_in_cone-requires-clause-covers
value_in_cone-requires-clause-covers c = subst (Covers c.args.aig.now (c.args.l.0 ∷ [])) (sym c.as_slice.ensures) c.requires.covers

pub returns : goal.returns
returns c = bit_told c.value_in_cone.result c.args.aig.now c.args.aig.now c.as_slice.result.now c.args.query.now.vars c.args.bits.now c.args.l.0 refl c.as_slice.ensures c.value_in_cone.ensures
