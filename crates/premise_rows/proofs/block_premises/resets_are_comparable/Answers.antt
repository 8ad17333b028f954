use Rattle.premise_rows.proofs.block_premises.ResetPremises.{resets_are_comparable}
use Rattle.premise_rows.proofs.block_premises.resets_are_comparable.Goals as goal

pub returns : goal.returns
returns c = resets_are_comparable
