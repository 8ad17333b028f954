use Rattle.premise_rows.proofs.Examples.{texts_are_accepted}
use Rattle.premise_rows.proofs.texts_are_accepted.Goals as goal

pub returns : goal.returns
returns c = texts_are_accepted
