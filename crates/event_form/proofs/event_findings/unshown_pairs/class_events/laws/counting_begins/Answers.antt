use Rattle.event_form.proofs.event_findings.unshown_pairs.class_events.Begin.{begins}
use Rattle.event_form.proofs.event_findings.unshown_pairs.class_events.laws.counting_begins.Goals as goal

pub returns : goal.returns
returns c = begins
