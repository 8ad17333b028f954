use Rattle.pair_texts.proofs.design_rows.Examples.{early_is_small}
use Rattle.pair_texts.proofs.design_rows.early_is_small.Goals as goal

pub returns : goal.returns
returns c = early_is_small
