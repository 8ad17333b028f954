use Rattle.std.proofs.Common.{take}
use Rattle.event_under.proofs.event_shown_under.Shifts.{ArePut}
use Rattle.event_under.proofs.event_shown_under.steps.shifts_at.Given as goal

abbrev pub invariant-loop-i : goal.invariant-loop-i
invariant-loop-i l = ArePut l.table l.vars.items (take l.i l.steps)
