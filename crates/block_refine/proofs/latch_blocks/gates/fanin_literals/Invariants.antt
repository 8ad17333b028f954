use Rattle.std.proofs.Common.{◌≡◌, map, take}
use Rattle.flat_net.specs.declared.signals.Signal.{Signal}
use Rattle.block_refine.specs.latch_blocks.Signals.{lit_at}
use Rattle.block_refine.proofs.latch_blocks.gates.fanin_literals.Given as goal

abbrev pub invariant-loop-fanin : goal.invariant-loop-fanin
invariant-loop-fanin l = l.found.items ≡ map (λ (f : Signal). lit_at l.lits f.0) (take l.fanin-index l.fanins)
