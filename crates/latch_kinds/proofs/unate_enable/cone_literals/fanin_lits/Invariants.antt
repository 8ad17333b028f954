use Rattle.std.proofs.Common.{◌≡◌, Some, nat_eq, take}
use Rattle.std.specs.List.{AllZip}
use Rattle.indexmap.specs.IndexMap.{get}
use Rattle.flat_net.specs.declared.signals.Signal.{Signal}
use Rattle.aig.specs.declared.node.Lit.{Lit}
use Rattle.latch_kinds.proofs.unate_enable.cone_literals.fanin_lits.Given as goal

abbrev pub invariant-loop-fanin : goal.invariant-loop-fanin
invariant-loop-fanin l = AllZip (λ (f : Signal) (y : Lit). get nat_eq l.known f.0 ≡ Some y) (take l.fanin-index l.fanins) l.lits.items
