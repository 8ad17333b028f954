use Rattle.event_form.proofs.event_findings.event_witness.Differing.{always_differences}
use Rattle.event_form.proofs.event_findings.event_witness.laws.always_differences_make_differ.Goals as goal

pub returns : goal.returns
returns c = always_differences
