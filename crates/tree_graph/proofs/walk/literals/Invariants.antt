use Rattle.std.proofs.Common.{List, ◌++◌, drop}
use Rattle.std.specs.List.{AllZip, Contains}
use Rattle.flat_net.specs.declared.signals.Signal.{Signal}
use Rattle.aig.specs.declared.node.Lit.{Lit}
use Rattle.tree_graph.proofs.walk.literals.Given as goal

abbrev pub invariant-loop-signal : goal.invariant-loop-signal
invariant-loop-signal l =
    (ys : List Lit) → AllZip (λ (f : Signal) (y : Lit). Contains l.memo ((l.shift, f.0), y)) (drop l.signal-index l.signals) ys → AllZip (λ (f : Signal) (y : Lit). Contains l.memo ((l.shift, f.0), y)) l.signals (l.lits.items ++ ys)
