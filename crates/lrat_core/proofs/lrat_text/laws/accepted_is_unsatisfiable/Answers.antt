use Rattle.lrat_core.proofs.lrat_text.Texts.{accepted_sound}
use Rattle.lrat_core.proofs.lrat_text.laws.accepted_is_unsatisfiable.Goals as goal

pub returns : goal.returns
returns c = accepted_sound
