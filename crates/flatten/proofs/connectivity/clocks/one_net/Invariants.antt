use Rattle.std.proofs.Common.{take}
use Rattle.flatten.specs.connectivity.Clocks.{AreOneNet}
use Rattle.flatten.proofs.connectivity.clocks.one_net.Given as goal

abbrev pub invariant-loop-signal : goal.invariant-loop-signal
invariant-loop-signal l = AreOneNet l.nets (take l.signal-index l.signals) l.clock
