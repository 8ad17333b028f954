use Rattle.std.proofs.Common.{[], ◌∷◌, length, ap, arith}
use Rattle.std.proofs.lemmas.List.{length-append}
use Rattle.std.proofs.lemmas.Option.{slice_get-get_or}
use Rattle.swept_queries.proofs.node_agreement.Modelled.{variables-step}
use Rattle.swept_queries.proofs.node_agreement.models.model_of.Goals as goal

pub loop-i-preserved : goal.loop-i-preserved
loop-i-preserved c =
    let put = c.in_ok-put.ensures c.if-not-put.false in
    record {
      each = omega (arith, ap length put.2, length-append c.loop-i.vars.items (put.0 ∷ []), c.loop-i.invariant.each);
      are = variables-step c.args.graph.now c.args.nodes.now c.loop-i.vars.items _ c.loop-i.i _ put.0 c.loop-i.invariant.each (slice_get-get_or c.args.nodes.now c.loop-i.i 0 c.loop-i-test.true) put.1 put.2 c.loop-i.invariant.are;
    }
