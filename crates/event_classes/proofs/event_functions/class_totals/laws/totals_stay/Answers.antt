use Rattle.event_classes.proofs.event_functions.class_totals.Going.{totals_stay}
use Rattle.event_classes.proofs.event_functions.class_totals.laws.totals_stay.Goals as goal

pub returns : goal.returns
returns c = totals_stay
