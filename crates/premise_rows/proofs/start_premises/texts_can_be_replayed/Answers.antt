use Rattle.premise_rows.proofs.start_premises.Begun.{texts_can_be_replayed}
use Rattle.premise_rows.proofs.start_premises.texts_can_be_replayed.Goals as goal

pub returns : goal.returns
returns c = texts_can_be_replayed
