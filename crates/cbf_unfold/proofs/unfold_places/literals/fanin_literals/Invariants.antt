use Rattle.std.proofs.Common.{take}
use Rattle.std.specs.List.{AllZip, Contains}
use Rattle.flat_net.specs.declared.signals.Signal.{Signal}
use Rattle.aig.specs.declared.node.Lit.{Lit}
use Rattle.cbf_unfold.proofs.unfold_places.literals.fanin_literals.Given as goal

abbrev pub invariant-loop-fanin : goal.invariant-loop-fanin
invariant-loop-fanin l = AllZip (λ (f : Signal) (y : Lit). Contains l.memo ((l.cycle, f.0), y)) (take l.fanin-index l.fanins) l.lits.items
