use Rattle.premise_rows.proofs.search_premises.Searched.{texts_can_be_searched}
use Rattle.premise_rows.proofs.search_premises.texts_can_be_searched.Goals as goal

pub returns : goal.returns
returns c = texts_can_be_searched
