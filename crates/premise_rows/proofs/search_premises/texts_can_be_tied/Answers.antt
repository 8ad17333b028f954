use Rattle.premise_rows.proofs.search_premises.SearchedUnder.{texts_can_be_tied}
use Rattle.premise_rows.proofs.search_premises.texts_can_be_tied.Goals as goal

pub returns : goal.returns
returns c = texts_can_be_tied
