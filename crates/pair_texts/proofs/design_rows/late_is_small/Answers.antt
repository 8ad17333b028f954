use Rattle.pair_texts.proofs.design_rows.Examples.{late_is_small}
use Rattle.pair_texts.proofs.design_rows.late_is_small.Goals as goal

pub returns : goal.returns
returns c = late_is_small
