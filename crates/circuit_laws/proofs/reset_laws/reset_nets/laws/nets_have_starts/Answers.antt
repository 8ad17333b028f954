use Rattle.circuit_laws.proofs.reset_laws.reset_nets.Starts.{nets_have_starts}
use Rattle.circuit_laws.proofs.reset_laws.reset_nets.laws.nets_have_starts.Goals as goal

pub returns : goal.returns
returns c = nets_have_starts
