use Rattle.event_classes.proofs.event_functions.class_totals.Going.{totals_go_on}
use Rattle.event_classes.proofs.event_functions.class_totals.laws.totals_go_on.Goals as goal

pub returns : goal.returns
returns c = totals_go_on
