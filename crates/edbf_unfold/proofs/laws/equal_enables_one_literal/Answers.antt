use Rattle.edbf_unfold.proofs.EventLiterals.{one_enable_literal}
use Rattle.edbf_unfold.proofs.laws.equal_enables_one_literal.Goals as goal

pub returns : goal.returns
returns c = one_enable_literal
