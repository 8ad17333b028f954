use Rattle.event_form.proofs.event_findings.event_witness.Growing.{differences_later}
use Rattle.event_form.proofs.event_findings.event_witness.laws.differences_grow.Goals as goal

pub returns : goal.returns
returns c = differences_later
