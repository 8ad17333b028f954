use Rattle.event_form.proofs.event_findings.unshown_pairs.class_events.Telling.{apart_stays}
use Rattle.event_form.proofs.event_findings.unshown_pairs.class_events.laws.apart_stays.Goals as goal

pub returns : goal.returns
returns c = apart_stays
