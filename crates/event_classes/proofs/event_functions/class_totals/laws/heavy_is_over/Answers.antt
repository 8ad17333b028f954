use Rattle.event_classes.proofs.event_functions.class_totals.Over.{heavy_is_over}
use Rattle.event_classes.proofs.event_functions.class_totals.laws.heavy_is_over.Goals as goal

pub returns : goal.returns
returns c = heavy_is_over
