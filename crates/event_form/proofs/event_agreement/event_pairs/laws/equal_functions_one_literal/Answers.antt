use Rattle.event_form.proofs.event_agreement.event_pairs.Growing.{one_literal}
use Rattle.event_form.proofs.event_agreement.event_pairs.laws.equal_functions_one_literal.Goals as goal

pub returns : goal.returns
returns c = one_literal
