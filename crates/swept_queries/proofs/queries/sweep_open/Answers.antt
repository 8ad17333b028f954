-- What is tried and kept are literals of the graph.
use Rattle.std.proofs.Common.{◌*◌, ◌<◌, length, sym, subst}
use Rattle.std.specs.List.{All}
use Rattle.swept_queries.specs.sweep.aig.Lit.{Lit}
use Rattle.swept_queries.proofs.queries.sweep_open.Goals as goal

pub sweep_across-requires-clause-tried : goal.sweep_across-requires-clause-tried
sweep_across-requires-clause-tried c =
    subst (All (λ (l : Lit). l.0 < 2 * length c.args.aig.now)) (sym c.as_slice.ensures.value) (c.in_ok-tried.ensures c.args.aig.now c.requires.within)

pub sweep_across-requires-clause-kept : goal.sweep_across-requires-clause-kept
sweep_across-requires-clause-kept c =
    subst (All (λ (l : Lit). l.0 < 2 * length c.args.aig.now)) (sym c.as_slice-2.ensures.value) (c.in_ok-kept.ensures c.args.aig.now c.requires.within)
