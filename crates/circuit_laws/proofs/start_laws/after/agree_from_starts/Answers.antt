use Rattle.circuit_laws.proofs.start_laws.Knowing.{agree_from_starts}
use Rattle.circuit_laws.proofs.start_laws.after.agree_from_starts.Goals as goal

pub returns : goal.returns
returns c = agree_from_starts
