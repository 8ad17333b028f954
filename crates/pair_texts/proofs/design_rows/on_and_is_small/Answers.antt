use Rattle.pair_texts.proofs.design_rows.Examples.{on_and_is_small}
use Rattle.pair_texts.proofs.design_rows.on_and_is_small.Goals as goal

pub returns : goal.returns
returns c = on_and_is_small
