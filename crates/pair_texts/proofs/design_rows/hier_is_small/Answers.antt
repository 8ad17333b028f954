use Rattle.pair_texts.proofs.design_rows.Examples.{hier_is_small}
use Rattle.pair_texts.proofs.design_rows.hier_is_small.Goals as goal

pub returns : goal.returns
returns c = hier_is_small
