-- What the query of the latch's care says of its loads.
use Rattle.std.proofs.Common.{List, sym, subst}
use Rattle.aig.specs.declared.node.Node.{Node}
use Rattle.aig.specs.Graph.{IsGraph}
use Rattle.obligations.specs.outcome.Queries.{IsQuery}
use Rattle.event_settles.specs.Deciding.{CareDecides}
use Rattle.event_settles.proofs.LoadCares.{is_load_query, load_query, load_never, load_other}
use Rattle.event_settles.proofs.idle.is_never.Goals as goal

pub care_met-requires-clause-graph : goal.care_met-requires-clause-graph
care_met-requires-clause-graph c = subst IsGraph (sym c.aig.ensures) c.keeps.ensures.events.is_graph

pub care_met-requires-clause-query : goal.care_met-requires-clause-query
care_met-requires-clause-query c = subst (λ (g : List Node). IsQuery g (load_query c.args.function)) (sym c.aig.ensures) (is_load_query c.args.graph.now c.keeps.ensures.events c.args.function c.requires.ready)

pub returns-in-Never : goal.returns-in-Never
returns-in-Never c s u k =
    let w = c.args.graph.now in
    let f = c.args.function in
    load_never s w u f c.keeps.ensures.events k c.args.conflicts
    (subst (CareDecides w.graph (load_query f) c.args.conflicts) c.in-Never.is (subst (λ (g : List Node). CareDecides g (load_query f) c.args.conflicts c.in_ok-care_met.field-0) c.aig.ensures c.in_ok-care_met.ensures))

pub returns : goal.returns
returns c s u k =
    let w = c.args.graph.now in
    let f = c.args.function in
    load_other s w u f c.keeps.ensures.events k c.args.conflicts c.in_ok-care_met.field-0 (λ idle e. c.in_default.not-Never idle e)
    (subst (λ (g : List Node). CareDecides g (load_query f) c.args.conflicts c.in_ok-care_met.field-0) c.aig.ensures c.in_ok-care_met.ensures)
