-- The query of both signals.
use Rattle.std.proofs.Common.{refl}
use Rattle.pair_decide.specs.declared.query.Query.{Query}
use Rattle.block_refine.specs.block_graph.Graph.{number_of}
use Rattle.block_refine.proofs.block_graph.Queries.{is_query}
use Rattle.block_refine.proofs.block_graph.graph.BlockGraph.compare.Goals as goal

pub decide-requires-clause-query : goal.decide-requires-clause-query
decide-requires-clause-query c =
    let q : Query = record { left = c.lit.result; right = c.lit-2.result; care = record { 0 = 1 }; vars = c.in_ok-vars.vars } in
    is_query c.args.nets.now c.args.self.now c.requires.graph c.keeps.ensures.graph q (number_of c.args.left) (number_of c.args.right) c.lit.ensures c.lit-2.ensures refl c.in_ok-vars.ensures
