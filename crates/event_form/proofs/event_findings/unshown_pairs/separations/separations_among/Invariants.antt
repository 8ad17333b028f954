use Rattle.event_form.proofs.event_findings.unshown_pairs.EachTwo.{AreToldTo}
use Rattle.event_form.proofs.event_findings.unshown_pairs.separations.separations_among.Given as goal

abbrev pub invariant-loop-i : goal.invariant-loop-i
invariant-loop-i l = AreToldTo l.events.events l.aparts l.classes l.i l.told
