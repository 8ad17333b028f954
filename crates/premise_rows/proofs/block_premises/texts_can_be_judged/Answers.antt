use Rattle.premise_rows.proofs.block_premises.ByBlocks.{texts_can_be_judged}
use Rattle.premise_rows.proofs.block_premises.texts_can_be_judged.Goals as goal

pub returns : goal.returns
returns c = texts_can_be_judged
