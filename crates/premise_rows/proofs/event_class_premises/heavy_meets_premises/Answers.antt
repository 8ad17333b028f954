use Rattle.premise_rows.proofs.event_class_premises.Heavy.{heavy_meets_premises}
use Rattle.premise_rows.proofs.event_class_premises.heavy_meets_premises.Goals as goal

pub returns : goal.returns
returns c = heavy_meets_premises
