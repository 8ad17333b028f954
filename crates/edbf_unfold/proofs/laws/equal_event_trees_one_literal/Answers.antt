use Rattle.edbf_unfold.proofs.EventLiterals.{one_literal}
use Rattle.edbf_unfold.proofs.laws.equal_event_trees_one_literal.Goals as goal

pub returns : goal.returns
returns c = one_literal
