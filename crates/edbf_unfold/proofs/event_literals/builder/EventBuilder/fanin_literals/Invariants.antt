use Rattle.std.proofs.Common.{take}
use Rattle.std.specs.List.{AllZip}
use Rattle.event_nodes.specs.flat_net.Signal.{Signal}
use Rattle.event_nodes.specs.Lit.{Lit}
use Rattle.edbf_unfold.specs.event_literals.Known.{IsReadLit}
use Rattle.edbf_unfold.proofs.event_literals.builder.EventBuilder.fanin_literals.Given as goal

abbrev pub invariant-loop-fanin : goal.invariant-loop-fanin
invariant-loop-fanin l = AllZip (λ (f : Signal) (y : Lit). IsReadLit l.self.memo l.step.frame l.step.onward f.0 y) (take l.fanin-index l.fanins) l.lits.items
