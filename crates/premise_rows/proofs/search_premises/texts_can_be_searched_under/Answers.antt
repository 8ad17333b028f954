use Rattle.premise_rows.proofs.search_premises.SearchedUnder.{texts_can_be_searched_under}
use Rattle.premise_rows.proofs.search_premises.texts_can_be_searched_under.Goals as goal

pub returns : goal.returns
returns c = texts_can_be_searched_under
