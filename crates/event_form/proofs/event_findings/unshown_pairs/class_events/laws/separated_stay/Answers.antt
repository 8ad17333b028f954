use Rattle.event_form.proofs.event_findings.unshown_pairs.class_events.Telling.{separated_stay}
use Rattle.event_form.proofs.event_findings.unshown_pairs.class_events.laws.separated_stay.Goals as goal

pub returns : goal.returns
returns c = separated_stay
