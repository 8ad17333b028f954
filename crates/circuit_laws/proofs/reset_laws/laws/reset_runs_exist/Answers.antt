use Rattle.circuit_laws.proofs.reset_laws.ResetRuns.{reset_runs_exist}
use Rattle.circuit_laws.proofs.reset_laws.laws.reset_runs_exist.Goals as goal

pub returns : goal.returns
returns c = reset_runs_exist
