use Rattle.std.proofs.Common.{◌∙◌, List, length, sym, ap, subst}
use Rattle.std.proofs.lemmas.List.{with_items_is}
use Rattle.latch_graph.specs.declared.states.State.{State}
use Rattle.latch_graph.specs.Rounds.{AreRemoved}
use Rattle.latch_graph.proofs.rounds.first_states.Goals as goal

pub returns-clause-size : goal.returns-clause-size
returns-clause-size c =
    let v = c.in_ok-states.states in
    let new = c.remove_marked.new.states in
    ap length (with_items_is v new (c.remove_marked.auto.states ∙ c.as_mut_slice.ensures.len)) ∙ c.remove_marked.auto.states ∙ ap length c.as_mut_slice.ensures.value ∙ c.in_ok-states.ensures.size

pub returns-clause-removed : goal.returns-clause-removed
returns-clause-removed c =
    let v = c.in_ok-states.states in
    let new = c.remove_marked.new.states in
    subst (λ (z : List State). AreRemoved c.args.latches.now c.args.removed.now (length c.args.latches.now) z) (sym (with_items_is v new (c.remove_marked.auto.states ∙ c.as_mut_slice.ensures.len))) c.remove_marked.ensures
