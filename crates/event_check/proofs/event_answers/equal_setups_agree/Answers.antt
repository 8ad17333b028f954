use Rattle.event_check.proofs.event_answers.Agreeing.{setups_agree}
use Rattle.event_check.proofs.event_answers.equal_setups_agree.Goals as goal

pub returns : goal.returns
returns c = setups_agree
