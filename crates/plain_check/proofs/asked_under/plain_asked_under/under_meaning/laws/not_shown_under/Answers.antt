use Rattle.plain_check.proofs.asked_under.plain_asked_under.under_meaning.Meaning.{not_shown_under}
use Rattle.plain_check.proofs.asked_under.plain_asked_under.under_meaning.laws.not_shown_under.Goals as goal

pub returns : goal.returns
returns c = not_shown_under
