use Rattle.std.proofs.Common.{◌∙◌, List, sym, subst}
use Rattle.std.proofs.lemmas.List.{with_items_is}
use Rattle.latch_graph.specs.declared.states.State.{State}
use Rattle.latch_graph.specs.Settling.{IsSettled}
use Rattle.latch_graph.proofs.states.settled_from.Goals as goal

pub returns-clause-settled : goal.returns-clause-settled
returns-clause-settled c =
    subst (λ (z : List State). IsSettled c.args.nodes.now z) (sym (with_items_is c.args.states c.settle.new.states (c.settle.auto.states ∙ c.as_mut_slice.ensures.len))) c.in_ok-settle.ensures.settled
