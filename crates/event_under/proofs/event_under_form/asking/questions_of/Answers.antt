-- What is asked under the assumption of the event graph is asked of the pairs.
use Rattle.std.proofs.Common.{sym, subst}
use Rattle.std.specs.List.{All}
use Rattle.event_nodes.specs.Nodes.{EventGraphView}
use Rattle.event_form.specs.event_agreement.pair_events.Laws.{AreKept}
use Rattle.event_form.specs.event_agreement.pair_events.View.{side_of_both}
use Rattle.event_form.specs.Asked.{AreAsked}
use Rattle.event_under.specs.event_asked_under.Questions.{IsOneOver}
use Rattle.event_under.specs.event_under_form.Asked.{AreAskedAssumed}
use Rattle.event_under.proofs.event_under_form.Questions.{asked_assumed, if_all, ones_over}
use Rattle.event_under.proofs.event_under_form.asking.questions_of.Goals as goal

pub ask_under-requires-clause-own : goal.ask_under-requires-clause-own
ask_under-requires-clause-own c =
    let a = c.requires.premise in
    record { net = a.net; inputs = a.inputs; output = a.output; size = a.size; function = a.is.function; assumption = a.is.assumption; weighs = a.weighs }

pub ask_under-requires-clause-asked : goal.ask_under-requires-clause-asked
ask_under-requires-clause-asked c =
    let e = c.args.events.now in
    subst (λ (w : EventGraphView). All (IsOneOver w) c.args.asked.now) (sym c.graph.ensures)
    (ones_over (side_of_both e) e.events c.args.compared.now.cut c.keeps.ensures.kept.events c.args.compared.now.pairs.now c.args.asked.now c.requires.asked)

pub returns-clause-asked : goal.returns-clause-asked
returns-clause-asked c =
    let e = c.args.events.now in
    let p = c.args.compared.now in
    if_all c.ask_under.result _ _ _ _ (AreAskedAssumed e p c.args.premise.now c.args.asked.now)
    (λ x under distinct ranked light. asked_assumed e p c.args.premise.now c.args.asked.now c.keeps.ensures.kept c.requires.asked c.graph.result.now c.graph.ensures x ((λ n inputs output size is. under n inputs output size is.function is.assumption), distinct, ranked, light))
    c.ask_under.ensures.under c.ask_under.ensures.distinct c.ask_under.ensures.ranked c.ask_under.ensures.light

pub returns-clause-over : goal.returns-clause-over
returns-clause-over c is =
    let e = c.args.events.now in
    let p = c.args.compared.now in
    c.ask_under.ensures.over is e.left e.right p.cut p.pairs.now (subst (AreKept e.left e.right) (sym c.graph.ensures) c.keeps.ensures.kept)
    (subst (λ (w : EventGraphView). AreAsked (side_of_both e) w p.cut p.pairs.now c.args.asked.now) (sym c.graph.ensures) c.requires.asked)
