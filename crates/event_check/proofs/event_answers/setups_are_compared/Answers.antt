use Rattle.event_check.proofs.event_answers.Comparing.{setups_compared}
use Rattle.event_check.proofs.event_answers.setups_are_compared.Goals as goal

pub returns : goal.returns
returns c = setups_compared
