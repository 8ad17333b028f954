use Rattle.pair_texts.proofs.design_rows.Examples.{idle_is_small}
use Rattle.pair_texts.proofs.design_rows.idle_is_small.Goals as goal

pub returns : goal.returns
returns c = idle_is_small
