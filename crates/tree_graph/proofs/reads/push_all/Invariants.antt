use Rattle.std.proofs.Common.{◌≡◌, ◌++◌, map, drop}
use Rattle.tree_graph.proofs.reads.push_all.Given as goal

abbrev pub invariant-loop-signal : goal.invariant-loop-signal
invariant-loop-signal l = l.initial.stack.items ++ map (λ f. (l.shift, f.0)) l.signals ≡ l.stack.items ++ map (λ f. (l.shift, f.0)) (drop l.signal-index l.signals)
