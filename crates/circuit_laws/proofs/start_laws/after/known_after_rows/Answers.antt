use Rattle.circuit_laws.proofs.start_laws.Knowing.{known_after_rows}
use Rattle.circuit_laws.proofs.start_laws.after.known_after_rows.Goals as goal

pub returns : goal.returns
returns c = known_after_rows
