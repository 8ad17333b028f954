use Rattle.pair_texts.proofs.design_rows.NoFaults.{tested_is_sound}
use Rattle.pair_texts.proofs.design_rows.tested_is_sound.Goals as goal

pub returns : goal.returns
returns c = tested_is_sound
