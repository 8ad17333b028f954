use Rattle.lrat_core.proofs.lrat_text.Texts.{one_verdict}
use Rattle.lrat_core.proofs.lrat_text.laws.text_has_one_verdict.Goals as goal

pub returns : goal.returns
returns c = one_verdict
