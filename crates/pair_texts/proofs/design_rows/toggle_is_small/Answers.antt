use Rattle.pair_texts.proofs.design_rows.Toggle.{toggle_is_small}
use Rattle.pair_texts.proofs.design_rows.toggle_is_small.Goals as goal

pub returns : goal.returns
returns c = toggle_is_small
