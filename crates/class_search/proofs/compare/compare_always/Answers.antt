-- The query of an enable against `always`.
use Rattle.std.proofs.Common.{List, refl, sym, subst}
use Rattle.event_nodes.specs.event_variables.aig.Node.{Node}
use Rattle.pair_decide.specs.declared.query.Query.{Query}
use Rattle.pair_decide.specs.Queries.{IsQuery}
use Rattle.pair_decide.specs.Answers.{Decides}
use Rattle.class_search.proofs.Queries.{always_query}
use Rattle.class_search.proofs.compare.compare_always.Goals as goal

pub decide-requires-clause-query : goal.decide-requires-clause-query
decide-requires-clause-query c =
    let q : Query = record { left = c.args.latch.now.value; right = record { 0 = 1 }; care = c.args.latch.now.care; vars = c.in_ok-vars.vars } in
    subst (λ (g : List Node). IsQuery g q) (sym c.aig.ensures) (always_query c.args.events.now c.keeps.ensures.events q c.args.latch.now c.requires.ready refl refl refl c.in_ok-vars.ensures)

pub returns : goal.returns
returns c =
    let q : Query = record { left = c.args.latch.now.value; right = record { 0 = 1 }; care = c.args.latch.now.care; vars = c.in_ok-vars.vars } in
    record {
      query = q;
      left = refl;
      right = refl;
      care = refl;
      vars = refl;
      own = c.in_ok-vars.ensures;
      decided = subst (λ (g : List Node). Decides g q c.args.conflicts c.in_ok-decision.decision) c.aig.ensures c.in_ok-decision.ensures;
    }
