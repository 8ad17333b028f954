use Rattle.circuit_laws.proofs.start_laws.Knowing.{agree_up_to_from_starts}
use Rattle.circuit_laws.proofs.start_laws.after.agree_up_to_from_starts.Goals as goal

pub returns : goal.returns
returns c = agree_up_to_from_starts
