use Rattle.premise_rows.proofs.start_premises.Restarted.{circuits_agree_behind_rows}
use Rattle.premise_rows.proofs.start_premises.circuits_agree_behind_rows.Goals as goal

pub returns : goal.returns
returns c = circuits_agree_behind_rows
