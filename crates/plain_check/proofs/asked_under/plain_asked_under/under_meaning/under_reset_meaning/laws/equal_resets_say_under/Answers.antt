use Rattle.plain_check.proofs.asked_under.plain_asked_under.under_meaning.under_reset_meaning.Meaning.{equal_resets_say_under}
use Rattle.plain_check.proofs.asked_under.plain_asked_under.under_meaning.under_reset_meaning.laws.equal_resets_say_under.Goals as goal

pub returns : goal.returns
returns c = equal_resets_say_under
