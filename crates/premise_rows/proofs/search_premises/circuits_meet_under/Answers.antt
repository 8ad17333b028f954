use Rattle.premise_rows.proofs.search_premises.Under.{circuits_meet_under}
use Rattle.premise_rows.proofs.search_premises.circuits_meet_under.Goals as goal

pub returns : goal.returns
returns c = circuits_meet_under
