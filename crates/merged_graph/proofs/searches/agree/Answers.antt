-- The query asks just that.
use Rattle.std.proofs.Common.{◌*◌, ◌<◌, length, refl, arith}
use Rattle.aig.proofs.Insert.{graph-some}
use Rattle.swept_queries.specs.sweep.pair_decide.Query.{Query}
use Rattle.swept_queries.proofs.node_agreement.Asked.{query-of, same-of, same-agree}
use Rattle.merged_graph.proofs.searches.agree.Goals as goal

pub decide-requires-clause-query : goal.decide-requires-clause-query
decide-requires-clause-query c =
    let some : 0 < length c.args.graph.now = graph-some c.args.graph.now c.keeps.ensures.graph in
    let one : 1 < 2 * length c.args.graph.now = omega arith in
    query-of c.args.graph.now c.keeps.ensures.graph (record { left = c.args.x; right = c.args.y; care = record { 0 = 1 }; vars = c.in_ok-vars.vars }) c.requires.x c.requires.y one c.in_ok-vars.ensures

pub returns-in-Same : goal.returns-in-Same
returns-in-Same c = λ _.
    let q : Query = record { left = c.args.x; right = c.args.y; care = record { 0 = 1 }; vars = c.in_ok-vars.vars } in
    same-agree c.args.graph.now c.keeps.ensures.graph q refl (same-of c.args.graph.now q c.args.conflicts c.in_ok-decision.decision c.in_ok-decision.ensures (c.in-Same.field-0, c.in-Same.is))
