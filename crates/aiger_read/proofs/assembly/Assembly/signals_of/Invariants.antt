use Rattle.std.proofs.Common.{◌≡◌, map, take}
use Rattle.aiger_read.specs.Made.{signal_at}
use Rattle.aiger_read.proofs.assembly.Assembly.signals_of.Given as goal

abbrev pub invariant-loop-literal : goal.invariant-loop-literal
invariant-loop-literal l = l.signals ≡ map (signal_at l.self.signals.items) (take l.literal-index l.literals)
