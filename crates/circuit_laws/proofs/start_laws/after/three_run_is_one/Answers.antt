use Rattle.circuit_laws.proofs.start_laws.Three.{three_run_is_one}
use Rattle.circuit_laws.proofs.start_laws.after.three_run_is_one.Goals as goal

pub returns : goal.returns
returns c = three_run_is_one
