use Rattle.premise_rows.proofs.block_premises.ResetUnfolding.{unfolders_fit}
use Rattle.premise_rows.proofs.block_premises.unfolders_fit.Goals as goal

pub returns : goal.returns
returns c = unfolders_fit
