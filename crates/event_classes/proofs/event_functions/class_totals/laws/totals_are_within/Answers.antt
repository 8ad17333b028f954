use Rattle.event_classes.proofs.event_functions.class_totals.Over.{totals_are_within}
use Rattle.event_classes.proofs.event_functions.class_totals.laws.totals_are_within.Goals as goal

pub returns : goal.returns
returns c = totals_are_within
