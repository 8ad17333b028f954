-- What is kept is that of these graphs and positions.
use Rattle.std.proofs.Common.{ℕ, List, subst, sym}
use Rattle.std.specs.Prelude.{IfOk}
use Rattle.latch_graph.specs.minimal_cut.graph_components.Graph.{GraphView}
use Rattle.latch_graph.specs.minimal_cut.Chosen.{IsFree, IsMinimalChoice}
use Rattle.latch_graph.proofs.minimal_cut.trial.chosen.Goals as goal

pub chosen_in-requires-clause-left_free : goal.chosen_in-requires-clause-left_free
chosen_in-requires-clause-left_free c =
    let field = c.in_ok-field_a.ensures in
    subst (λ (g : GraphView). IsFree g c.in_ok-field_a.field_a.positions.now) (sym field.graph) (subst (λ (z : List ℕ). IsFree c.args.a.now z) (sym field.positions) c.requires.left_free)

pub chosen_in-requires-clause-right_free : goal.chosen_in-requires-clause-right_free
chosen_in-requires-clause-right_free c =
    let field = c.in_ok-field_b.ensures in
    subst (λ (g : GraphView). IsFree g c.in_ok-field_b.field_b.positions.now) (sym field.graph) (subst (λ (z : List ℕ). IsFree c.args.b.now z) (sym field.positions) c.requires.right_free)

pub returns : goal.returns
returns c =
    let made = c.chosen_in.result in
    let a = c.in_ok-field_a.field_a in
    let b = c.in_ok-field_b.field_b in
    subst (λ (g : GraphView). IfOk made (IsMinimalChoice g c.args.b.now c.args.lefts.now c.args.rights.now)) c.in_ok-field_a.ensures.graph
    (subst (λ (g : GraphView). IfOk made (IsMinimalChoice a.graph.now g c.args.lefts.now c.args.rights.now)) c.in_ok-field_b.ensures.graph
    (subst (λ (z : List ℕ). IfOk made (IsMinimalChoice a.graph.now b.graph.now z c.args.rights.now)) c.in_ok-field_a.ensures.positions
    (subst (λ (z : List ℕ). IfOk made (IsMinimalChoice a.graph.now b.graph.now a.positions.now z)) c.in_ok-field_b.ensures.positions c.chosen_in.ensures)))

pub chosen_in-requires-clause-a : goal.chosen_in-requires-clause-a
chosen_in-requires-clause-a c = c.in_ok-field_a.ensures.field

pub chosen_in-requires-clause-b : goal.chosen_in-requires-clause-b
chosen_in-requires-clause-b c = c.in_ok-field_b.ensures.field
