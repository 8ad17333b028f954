use Rattle.assume_laws.proofs.Filled.{witness_makes_differ_under}
use Rattle.assume_laws.proofs.laws.witness_makes_differ_under.Goals as goal

pub returns : goal.returns
returns c = witness_makes_differ_under
