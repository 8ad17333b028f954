use Rattle.std.proofs.Common.{take}
use Rattle.event_form.specs.event_findings.unshown_pairs.Telling.{HaveTold}
use Rattle.event_form.proofs.event_findings.unshown_pairs.separations.tell_each.Given as goal

abbrev pub invariant-loop-j : goal.invariant-loop-j
invariant-loop-j l = HaveTold l.events.events l.aparts l.low (take l.j l.others) l.initial.told l.told
