use Rattle.event_classes.proofs.event_functions.class_totals.Going.{totals_begin}
use Rattle.event_classes.proofs.event_functions.class_totals.laws.totals_begin.Goals as goal

pub returns : goal.returns
returns c = totals_begin
