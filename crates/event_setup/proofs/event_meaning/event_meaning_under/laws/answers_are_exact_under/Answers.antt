use Rattle.event_setup.proofs.event_meaning.event_meaning_under.Exact.{answers_exact}
use Rattle.event_setup.proofs.event_meaning.event_meaning_under.laws.answers_are_exact_under.Goals as goal

pub returns : goal.returns
returns c = answers_exact
