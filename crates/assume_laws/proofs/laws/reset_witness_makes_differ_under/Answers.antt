use Rattle.assume_laws.proofs.ResetFilled.{reset_witness_makes_differ_under}
use Rattle.assume_laws.proofs.laws.reset_witness_makes_differ_under.Goals as goal

pub returns : goal.returns
returns c = reset_witness_makes_differ_under
