use Rattle.pair_texts.proofs.design_rows.Examples.{off_and_is_small}
use Rattle.pair_texts.proofs.design_rows.off_and_is_small.Goals as goal

pub returns : goal.returns
returns c = off_and_is_small
