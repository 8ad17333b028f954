use Rattle.circuit_laws.proofs.signal_laws.Toggling.{toggles_agree}
use Rattle.circuit_laws.proofs.signal_laws.sample.toggles_agree.Goals as goal

pub returns : goal.returns
returns c = toggles_agree
