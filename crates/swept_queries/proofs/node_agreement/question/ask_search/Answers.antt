use Rattle.swept_queries.proofs.node_agreement.Asked.{query-of, outcome-answers}
use Rattle.swept_queries.proofs.node_agreement.question.ask_search.Goals as goal

pub decide-requires-clause-query : goal.decide-requires-clause-query
decide-requires-clause-query c = query-of c.args.graph.now c.keeps.ensures.graph c.args.query c.requires.left c.requires.right c.requires.care c.requires.vars

pub returns : goal.returns
returns c = outcome-answers c.args.graph.now c.args.query c.requires.vars c.args.conflicts c.in_ok-decision.decision c.in_ok-decision.ensures c.outcome_of.result c.outcome_of.ensures
