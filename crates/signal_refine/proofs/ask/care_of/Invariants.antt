use Rattle.std.proofs.Common.{◌*◌, ◌<◌, length}
use Rattle.aig.specs.Graph.{Grows}
use Rattle.signal_refine.specs.Asking.{IsCare}
use Rattle.signal_refine.proofs.ask.care_of.Given as goal

abbrev pub invariant-loop-i : goal.invariant-loop-i
invariant-loop-i l = record { care : IsCare l.own l.read l.aig l.care; within : l.care.0 < 2 * length l.aig; grows : Grows l.initial.aig l.aig }
