use Rattle.circuit_laws.proofs.start_laws.Knowing.{tail_is_reset_run}
use Rattle.circuit_laws.proofs.start_laws.after.tail_is_reset_run.Goals as goal

pub returns : goal.returns
returns c = tail_is_reset_run
