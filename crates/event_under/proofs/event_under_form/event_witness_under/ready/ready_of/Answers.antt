-- What is read of the query is its own.
use Rattle.std.proofs.Common.{◌∙◌, ◌<◌, ◌≤◌, ℕ, length, sym, ap, subst}
use Rattle.std.specs.List.{All}
use Rattle.event_under.proofs.event_under_form.event_witness_under.Variables.{is_ready}
use Rattle.event_under.proofs.event_under_form.event_witness_under.ready.ready_of.Goals as goal

pub sides_of-requires-clause-each : goal.sides_of-requires-clause-each
sides_of-requires-clause-each c = ap length c.as_slice.ensures ∙ c.requires.each

pub node_variables-requires-clause-nodes : goal.node_variables-requires-clause-nodes
node_variables-requires-clause-nodes c = subst (All (λ (n : ℕ). n ≤ length c.args.events.now.children)) (sym c.as_slice-nodes.ensures) c.requires.nodes

pub node_variables-requires-clause-within : goal.node_variables-requires-clause-within
node_variables-requires-clause-within c = subst (All (λ (v : ℕ). v < length c.args.questions.now.places)) (sym c.as_slice-vars.ensures) c.requires.within

pub returns : goal.returns
returns c =
    is_ready c.args.events.now c.args.questions.now c.args.query.now c.args.bits.now c.as_slice.result.now c.args.name.now _ c.as_slice-nodes.result.now c.as_slice-vars.result.now c.as_slice.ensures c.as_slice-nodes.ensures c.as_slice-vars.ensures c.requires.each
    c.in_ok-pair.ensures c.in_ok-sides.ensures c.in_ok-made.ensures.within c.in_ok-made.ensures.variables
