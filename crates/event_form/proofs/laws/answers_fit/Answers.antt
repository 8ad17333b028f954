use Rattle.event_form.proofs.Answers.{answers_are_fit}
use Rattle.event_form.proofs.laws.answers_fit.Goals as goal

pub returns : goal.returns
returns c = answers_are_fit
