-- A variable whose node is so many steps of class 0, or isn't.
use Rattle.std.proofs.Common.{◌≡◌, ◌∙◌, ℕ, List, sym, ap, subst, ◌≤◌, length}
use Rattle.circuit_theory.specs.Query.{Variable}
use Rattle.circuit_theory.specs.Frame.{always_node}
use Rattle.event_nodes.specs.event_variables.Variables.{variable_of}
use Rattle.event_nodes.proofs.event_variables.NodePaths.{variable_is}
use Rattle.event_nodes.specs.event_variables.frame_sequences.Frames.{HasPut}
use Rattle.event_nodes.proofs.event_variables.frame_sequences.Filling.{put_none}
use Rattle.event_nodes.proofs.event_variables.flat_net.Places.{All-at}
use Rattle.event_nodes.proofs.event_variables.frame_sequences.table.put_variable.Goals as goal

pub returns-in-Some : goal.returns-in-Some
returns-in-Some c =
    let named : List ℕ → Variable (List ℕ) = λ p. record { input = c.place-input.result.0; at = p } in
    let here : variable_of c.args.events.now c.args.variable ≡ named (always_node c.in-Some.steps) =
    variable_is c.args.events.now c.keeps.ensures.events c.args.variable c.place-input.result c.place-input.ensures ∙ ap named c.in-Some.ensures in
    subst (λ (x : Variable (List ℕ)). HasPut c.args.last c.args.count x c.args.bit c.args.rows.now.items c.put_at.new.rows.items) (sym here) c.put_at.ensures

pub returns-in_default : goal.returns-in_default
returns-in_default c =
    let here = variable_is c.args.events.now c.keeps.ensures.events c.args.variable c.place-input.result c.place-input.ensures in
    put_none c.args.last c.args.count (variable_of c.args.events.now c.args.variable) c.args.bit c.args.rows.now.items (λ k early at inside. c.in_default.ensures k (sym (ap (λ (x : Variable (List ℕ)). x.at) here) ∙ at))

pub always_steps-requires : goal.always_steps-requires
always_steps-requires c = All-at (λ (p : ℕ × ℕ). p.1 ≤ length c.args.events.now.children) c.args.events.now.places c.args.variable c.place-input.result c.place-input.ensures c.keeps.ensures.events.placed
