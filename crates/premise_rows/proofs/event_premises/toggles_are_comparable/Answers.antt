use Rattle.premise_rows.proofs.event_premises.PlainExamples.{toggles_are_comparable}
use Rattle.premise_rows.proofs.event_premises.toggles_are_comparable.Goals as goal

pub returns : goal.returns
returns c = toggles_are_comparable
