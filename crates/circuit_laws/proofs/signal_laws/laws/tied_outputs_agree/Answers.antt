use Rattle.circuit_laws.proofs.signal_laws.Holding.{tied_outputs_agree}
use Rattle.circuit_laws.proofs.signal_laws.laws.tied_outputs_agree.Goals as goal

pub returns : goal.returns
returns c = tied_outputs_agree
