-- The law of this name.
use Rattle.event_under.proofs.event_under_form.event_under_verdicts.Firsts.{findings_fit}
use Rattle.event_under.proofs.event_under_form.event_under_verdicts.laws.verdicts_fit_under.Goals as goal

pub returns : goal.returns
returns c = findings_fit
