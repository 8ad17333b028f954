use Rattle.event_form.proofs.event_agreement.event_pairs.Sides.{signals_are_both}
use Rattle.event_form.proofs.event_agreement.event_pairs.laws.signals_are_functions.Goals as goal

pub returns : goal.returns
returns c = signals_are_both
