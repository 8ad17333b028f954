use Rattle.plain_check.proofs.asked_under.plain_asked_under.under_meaning.under_reset_meaning.Meaning.{different_resets_show_under}
use Rattle.plain_check.proofs.asked_under.plain_asked_under.under_meaning.under_reset_meaning.laws.different_resets_show_under.Goals as goal

pub returns : goal.returns
returns c = different_resets_show_under
