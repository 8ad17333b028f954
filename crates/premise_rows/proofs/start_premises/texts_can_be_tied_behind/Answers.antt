use Rattle.premise_rows.proofs.start_premises.BegunUnder.{texts_can_be_tied_behind}
use Rattle.premise_rows.proofs.start_premises.texts_can_be_tied_behind.Goals as goal

pub returns : goal.returns
returns c = texts_can_be_tied_behind
