use Rattle.circuit_laws.proofs.start_laws.Covers.{cover_forces}
use Rattle.circuit_laws.proofs.start_laws.after.cover_forces.Goals as goal

pub returns : goal.returns
returns c = cover_forces
