use Rattle.circuit_laws.proofs.start_laws.Three.{starts_of_three_run}
use Rattle.circuit_laws.proofs.start_laws.after.starts_of_three_run.Goals as goal

pub returns : goal.returns
returns c = starts_of_three_run
