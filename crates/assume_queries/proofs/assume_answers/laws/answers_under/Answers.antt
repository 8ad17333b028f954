use Rattle.assume_queries.proofs.assume_answers.Pairs.{answers_under}
use Rattle.assume_queries.proofs.assume_answers.laws.answers_under.Goals as goal

pub returns : goal.returns
returns c = answers_under
