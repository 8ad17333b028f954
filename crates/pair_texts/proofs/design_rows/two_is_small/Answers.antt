use Rattle.pair_texts.proofs.design_rows.Examples.{two_is_small}
use Rattle.pair_texts.proofs.design_rows.two_is_small.Goals as goal

pub returns : goal.returns
returns c = two_is_small
