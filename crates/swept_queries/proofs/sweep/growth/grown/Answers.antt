use Rattle.std.proofs.Common.{◌≡◌, length, subst, arith}
use Rattle.aig.proofs.Insert.{graph-some}
use Rattle.swept_queries.specs.sweep.Grown.{IsGrown}
use Rattle.swept_queries.proofs.sweep.growth.grown.Goals as goal

pub returns : goal.returns
returns c =
    let some = graph-some c.args.old.now c.keeps.ensures.graph in
    let done : c.loop-n.n ≡ length c.args.old.now = omega (arith, graph-some c.args.old.now c.keeps.ensures.graph, c.size-n-end.ensures, c.loop-n-test.false, c.loop-n.auto.n-end) in
    subst (IsGrown c.args.old.now c.loop-n.growth) done c.loop-n.invariant
