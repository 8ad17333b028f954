use Rattle.std.proofs.Common.{◌∙◌, ◌+◌, ◌*◌, ℕ, List, ap, subst, arith}
use Rattle.net_assembly.specs.Order.{IsOrder, IsRound}
use Rattle.aiger_read.specs.aiger_file.aiger_graph.Literals.{graph_of}
use Rattle.aiger_read.proofs.aiger_file.aiger_graph.ReadLiterals.{all_well}
use Rattle.aiger_read.proofs.aiger_file.aiger_graph.NoLoops.{round_is_loop, order_has_no_loop, graph_within, graph_few}
use Rattle.aiger_read.proofs.aiger_file.aiger_graph.graph.order_literals.Goals as goal

pub order_of-requires-clause-few : goal.order_of-requires-clause-few
order_of-requires-clause-few c =
    let few = graph_few c.args.file.now c.deref.result.now c.requires (c.deref.ensures.value ∙ c.in_ok-graph.ensures ∙ ap (λ rs. graph_of rs (2 * c.args.file.now.header.greatest + 2)) c.as_slice.ensures) in
    omega (arith, few)

pub order_of-requires-clause-within : goal.order_of-requires-clause-within
order_of-requires-clause-within c =
    graph_within c.args.file.now c.deref.result.now c.requires (c.deref.ensures.value ∙ c.in_ok-graph.ensures ∙ ap (λ rs. graph_of rs (2 * c.args.file.now.header.greatest + 2)) c.as_slice.ensures)

pub returns-in-Order-clause-ordered : goal.returns-in-Order-clause-ordered
returns-in-Order-clause-ordered c =
    let made = c.in_ok-graph.ensures ∙ ap (λ rs. graph_of rs (2 * c.args.file.now.header.greatest + 2)) c.as_slice.ensures in
    let ordered = subst (λ (g : List (List ℕ)). IsOrder g c.in-Order.order) (c.deref.ensures.value ∙ made) (c.in_ok-order.ensures.order c.in-Order.order c.in-Order.is) in
    record {
      graph_is = made;
      order_is = ordered;
      no_loop = order_has_no_loop c.args.file.now (2 * c.args.file.now.header.greatest + 2) c.in-Order.order c.requires.once (all_well c.args.file.now.header c.args.file.now.records c.requires.good) ordered;
    }

pub returns-in-Round-clause-looped : goal.returns-in-Round-clause-looped
returns-in-Round-clause-looped c =
    let made = c.in_ok-graph.ensures ∙ ap (λ rs. graph_of rs (2 * c.args.file.now.header.greatest + 2)) c.as_slice.ensures in
    round_is_loop c.args.file.now (2 * c.args.file.now.header.greatest + 2) c.in-Round.field-0
    (subst (λ (g : List (List ℕ)). IsRound g c.in-Round.field-0) (c.deref.ensures.value ∙ made) (c.in_ok-order.ensures.round c.in-Round.field-0 c.in-Round.is))
