-- A place that was met is found.
use Rattle.circuit_theory.proofs.Lists.{Contains-map}
use Rattle.aig.proofs.graph_copy.memo.Memo.met.Goals as goal

pub unreachable-requires : goal.unreachable-requires
unreachable-requires c = c.in-None.ensures.absent (Contains-map (λ e. e.0) c.args.self.now (c.args.place, c.requires.0) c.requires.1)
