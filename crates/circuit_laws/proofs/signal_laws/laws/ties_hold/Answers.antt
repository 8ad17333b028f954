use Rattle.circuit_laws.proofs.signal_laws.Holding.{ties_hold}
use Rattle.circuit_laws.proofs.signal_laws.laws.ties_hold.Goals as goal

pub returns : goal.returns
returns c = ties_hold
