use Rattle.event_form.proofs.Answers.{equal_agree}
use Rattle.event_form.proofs.laws.equal_pairs_agree.Goals as goal

pub returns : goal.returns
returns c = equal_agree
