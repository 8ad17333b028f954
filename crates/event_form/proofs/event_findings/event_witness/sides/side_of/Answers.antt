-- The value over the cone.
use Rattle.std.proofs.Common.{◌≢◌, ◌∙◌, ◌*◌, ◌<◌, ℕ, List, [], ◌∷◌, length, sym, ap, subst}
use Rattle.std.specs.List.{AllPairs}
use Rattle.aig.specs.declared.node.Node.{Node}
use Rattle.class_search.specs.class_separations.cone_values.lane_eval.Tables.{Covers}
use Rattle.event_form.proofs.event_findings.event_witness.Covering.{bit_told}
use Rattle.event_form.proofs.event_findings.event_witness.sides.side_of.Goals as goal

pub value_in_cone-requires-clause-literal : goal.value_in_cone-requires-clause-literal
value_in_cone-requires-clause-literal c = subst (λ (g : List Node). c.args.l.0 < 2 * length g) (sym c.aig.ensures) c.requires.literal

pub value_in_cone-requires-clause-each : goal.value_in_cone-requires-clause-each
value_in_cone-requires-clause-each c = c.requires.each ∙ sym (ap length c.as_slice.ensures)

pub value_in_cone-requires-clause-distinct : goal.value_in_cone-requires-clause-distinct
value_in_cone-requires-clause-distinct c = subst (AllPairs (λ (u v : ℕ). u ≢ v)) (sym c.as_slice.ensures) c.requires.distinct

pub value_in_cone-requires-clause-covers : goal.value_in_cone-requires-clause-covers
value_in_cone-requires-clause-covers c = subst (λ (g : List Node). Covers g (c.args.l.0 ∷ []) c.as_slice.result.now) (sym c.aig.ensures) (subst (Covers c.args.events.now.events.graph (c.args.l.0 ∷ [])) (sym c.as_slice.ensures) c.requires.covers)

pub returns : goal.returns
returns c = bit_told c.value_in_cone.result c.aig.result.now c.args.events.now.events.graph c.as_slice.result.now c.args.query.now.vars c.args.bits.now c.args.l.0 c.aig.ensures c.as_slice.ensures c.value_in_cone.ensures
