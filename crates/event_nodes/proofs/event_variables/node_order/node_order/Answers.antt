-- By length, and then by path.
use Rattle.std.proofs.Common.{◌∙◌, sym}
use Rattle.std.specs.Ordering.{nat_cmp}
use Rattle.event_nodes.proofs.event_variables.NodePaths.{by_length, by_path}
use Rattle.event_nodes.proofs.event_variables.node_order.node_order.Goals as goal

pub returns-then-left-right : goal.returns-then-left-right
returns-then-left-right c =
    by_length c.args.events.now.children c.args.m c.args.n c.cmp.result (λ e. c.if-left-right.true (c.path_length-left.ensures ∙ (e ∙ sym c.path_length-right.ensures)))
    (c.cmp.ensures ∙ (λ i. nat_cmp (c.path_length-right.ensures i) (c.path_length-left.ensures i)))

pub returns : goal.returns
returns c = by_path c.args.events.now.children c.args.m c.args.n c.path_order.result (sym c.path_length-left.ensures ∙ (c.if-left-right.false ∙ c.path_length-right.ensures)) c.path_order.ensures
