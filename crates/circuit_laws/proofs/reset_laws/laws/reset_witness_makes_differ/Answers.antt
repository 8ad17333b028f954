use Rattle.circuit_laws.proofs.reset_laws.ResetWindows.{reset_witness_makes_differ}
use Rattle.circuit_laws.proofs.reset_laws.laws.reset_witness_makes_differ.Goals as goal

pub returns : goal.returns
returns c = reset_witness_makes_differ
