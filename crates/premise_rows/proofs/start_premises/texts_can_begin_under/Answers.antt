use Rattle.premise_rows.proofs.start_premises.BegunUnder.{texts_can_begin_under}
use Rattle.premise_rows.proofs.start_premises.texts_can_begin_under.Goals as goal

pub returns : goal.returns
returns c = texts_can_begin_under
