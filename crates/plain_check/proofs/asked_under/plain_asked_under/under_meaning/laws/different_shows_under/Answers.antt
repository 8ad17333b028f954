use Rattle.plain_check.proofs.asked_under.plain_asked_under.under_meaning.Meaning.{different_shows_under}
use Rattle.plain_check.proofs.asked_under.plain_asked_under.under_meaning.laws.different_shows_under.Goals as goal

pub returns : goal.returns
returns c = different_shows_under
