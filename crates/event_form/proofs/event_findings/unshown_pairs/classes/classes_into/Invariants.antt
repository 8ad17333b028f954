use Rattle.std.proofs.Common.{take}
use Rattle.event_form.proofs.event_findings.unshown_pairs.Entering.{HaveEntered}
use Rattle.event_form.proofs.event_findings.unshown_pairs.classes.classes_into.Given as goal

abbrev pub invariant-loop-i : goal.invariant-loop-i
invariant-loop-i l = HaveEntered l.events.children (take l.i l.nodes) l.classes.items
