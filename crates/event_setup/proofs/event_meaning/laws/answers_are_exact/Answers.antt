use Rattle.event_setup.proofs.event_meaning.Exact.{answers_exact}
use Rattle.event_setup.proofs.event_meaning.laws.answers_are_exact.Goals as goal

pub returns : goal.returns
returns c = answers_exact
