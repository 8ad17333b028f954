use Rattle.std.proofs.Common.{take}
use Rattle.event_form.specs.Frames.{TellsFrame}
use Rattle.event_form.proofs.frames.frame_of.Given as goal

abbrev pub invariant-loop-i : goal.invariant-loop-i
invariant-loop-i l = TellsFrame l.events (take l.i l.vars) (take l.i l.bits) l.frame.items
