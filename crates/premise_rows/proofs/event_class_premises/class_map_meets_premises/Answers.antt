use Rattle.premise_rows.proofs.event_class_premises.ClassMap.{class_map_meets_premises}
use Rattle.premise_rows.proofs.event_class_premises.class_map_meets_premises.Goals as goal

pub returns : goal.returns
returns c = class_map_meets_premises
