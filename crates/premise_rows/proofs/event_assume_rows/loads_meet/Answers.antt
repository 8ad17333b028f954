use Rattle.premise_rows.proofs.event_assume_rows.Examples.{loads_meet}
use Rattle.premise_rows.proofs.event_assume_rows.loads_meet.Goals as goal

pub returns : goal.returns
returns c = loads_meet
