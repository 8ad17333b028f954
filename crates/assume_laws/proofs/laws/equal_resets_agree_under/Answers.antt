use Rattle.assume_laws.proofs.PlainLaws.{equal_resets_agree_under}
use Rattle.assume_laws.proofs.laws.equal_resets_agree_under.Goals as goal

pub returns : goal.returns
returns c = equal_resets_agree_under
