use Rattle.event_form.proofs.event_findings.event_witness.Showing.{differences_shown}
use Rattle.event_form.proofs.event_findings.event_witness.laws.differences_can_be_shown.Goals as goal

pub returns : goal.returns
returns c = differences_shown
