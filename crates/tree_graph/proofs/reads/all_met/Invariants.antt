use Rattle.std.proofs.Common.{ℕ, ◌<◌, get_or}
use Rattle.flat_net.specs.declared.signals.Signal.{Signal}
use Rattle.tree_graph.specs.Walking.{IsMet}
use Rattle.tree_graph.proofs.reads.all_met.Given as goal

abbrev pub invariant-loop-signal : goal.invariant-loop-signal
invariant-loop-signal l = (k : ℕ) (d : Signal) → k < l.signal-index → IsMet l.memo (l.shift, (get_or l.signals k d).0)
