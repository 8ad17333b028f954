use Rattle.std.proofs.Common.{take}
use Rattle.cycle_search.specs.Asked.{AreAskedIn}
use Rattle.cycle_search.proofs.asked.ask.Given as goal

abbrev pub invariant-loop-i : goal.invariant-loop-i
invariant-loop-i l = AreAskedIn l.functions.aig l.functions.places l.fn.cycle (take l.i l.pairs) l.left l.right l.asked.items
