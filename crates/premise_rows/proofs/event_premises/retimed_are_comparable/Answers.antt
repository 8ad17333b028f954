use Rattle.premise_rows.proofs.event_premises.PlainExamples.{retimed_are_comparable}
use Rattle.premise_rows.proofs.event_premises.retimed_are_comparable.Goals as goal

pub returns : goal.returns
returns c = retimed_are_comparable
