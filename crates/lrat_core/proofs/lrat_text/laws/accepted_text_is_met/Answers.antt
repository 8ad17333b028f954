use Rattle.lrat_core.proofs.lrat_text.TwoUnits.{two_units_are_refuted}
use Rattle.lrat_core.proofs.lrat_text.laws.accepted_text_is_met.Goals as goal

pub returns : goal.returns
returns c = two_units_are_refuted
