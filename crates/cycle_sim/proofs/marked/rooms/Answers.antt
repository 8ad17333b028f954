-- One place for each signal, and for each latch.
use Rattle.std.proofs.Common.{◌∙◌, false, List, ap, length, replicate}
use Rattle.std.proofs.lemmas.List.{length-replicate}
use Rattle.flat_net.specs.declared.parts.LatchAt.{LatchAt}
use Rattle.cycle_sim.proofs.marked.rooms.Goals as goal

pub returns-clause-tried : goal.returns-clause-tried
returns-clause-tried c = ap length c.in_ok-tried.ensures ∙ (length-replicate _ _ ∙ c.size.ensures)

pub returns-clause-marks : goal.returns-clause-marks
returns-clause-marks c = ap length c.in_ok-marks.ensures ∙ (length-replicate _ _ ∙ c.size-2.ensures)

pub returns-clause-ahead : goal.returns-clause-ahead
returns-clause-ahead c = c.in_ok-marks_ahead.ensures ∙ ap (λ (latches : List LatchAt). replicate (length latches) false) c.latches.ensures
