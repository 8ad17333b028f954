use Rattle.event_check.proofs.event_answers.Whole.{setups_whole}
use Rattle.event_check.proofs.event_answers.uncut_setups_are_whole.Goals as goal

pub returns : goal.returns
returns c = setups_whole
