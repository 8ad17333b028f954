use Rattle.plain_check.proofs.under_base.Verdicts.{verdicts_under}
use Rattle.plain_check.proofs.under_base.laws.verdicts_under.Goals as goal

pub returns : goal.returns
returns c = verdicts_under
