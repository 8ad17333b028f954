use Rattle.premise_rows.proofs.event_premises.LoadExamples.{loads_are_comparable}
use Rattle.premise_rows.proofs.event_premises.loads_are_comparable.Goals as goal

pub returns : goal.returns
returns c = loads_are_comparable
