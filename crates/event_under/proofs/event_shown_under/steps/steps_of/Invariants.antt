use Rattle.std.proofs.Common.{take}
use Rattle.event_under.proofs.event_shown_under.Shifts.{AreSteps}
use Rattle.event_under.proofs.event_shown_under.steps.steps_of.Given as goal

abbrev pub invariant-loop-i : goal.invariant-loop-i
invariant-loop-i l = AreSteps l.events (take l.i l.sides) l.steps.items
