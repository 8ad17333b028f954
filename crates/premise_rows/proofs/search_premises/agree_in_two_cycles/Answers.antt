use Rattle.premise_rows.proofs.search_premises.Cycles.{agree_in_two_cycles}
use Rattle.premise_rows.proofs.search_premises.agree_in_two_cycles.Goals as goal

pub returns : goal.returns
returns c = agree_in_two_cycles
