use Rattle.circuit_laws.proofs.start_laws.Knowing.{one_side_begins}
use Rattle.circuit_laws.proofs.start_laws.after.one_side_begins.Goals as goal

pub returns : goal.returns
returns c = one_side_begins
