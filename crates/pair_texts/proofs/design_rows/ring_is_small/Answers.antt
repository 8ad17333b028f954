use Rattle.pair_texts.proofs.design_rows.Examples.{ring_is_small}
use Rattle.pair_texts.proofs.design_rows.ring_is_small.Goals as goal

pub returns : goal.returns
returns c = ring_is_small
