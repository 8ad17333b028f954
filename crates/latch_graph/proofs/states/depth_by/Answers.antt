use Rattle.latch_graph.specs.Settling.{IsGreatest}
use Rattle.std.proofs.Common.{subst, List, arith}
use Rattle.signal_graph.specs.flat_net.Signal.{Signal}
use Rattle.latch_graph.proofs.states.depth_by.Goals as goal

pub overflow_add-result : goal.overflow_add-result
overflow_add-result c = omega (arith, c.requires.room c.greatest-most.result (subst (λ (z : List Signal). IsGreatest c.args.states.now z c.greatest-most.result) c.as_slice.ensures c.greatest-most.ensures))
