use Rattle.std.proofs.Common.{take}
use Rattle.cycle_under.specs.Asked.{AreAskedUnder}
use Rattle.cycle_under.proofs.asked.ask.Given as goal

abbrev pub invariant-loop-i : goal.invariant-loop-i
invariant-loop-i l = AreAskedUnder l.places l.fn.care l.fn.cycle (take l.i l.pairs) l.left l.right l.asked.items
