use Rattle.plain_check.proofs.asked_under.plain_asked_under.under_meaning.Meaning.{equal_says_under}
use Rattle.plain_check.proofs.asked_under.plain_asked_under.under_meaning.laws.equal_says_under.Goals as goal

pub returns : goal.returns
returns c = equal_says_under
