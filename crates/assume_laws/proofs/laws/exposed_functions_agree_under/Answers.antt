use Rattle.assume_laws.proofs.PlainLaws.{exposed_functions_agree_under}
use Rattle.assume_laws.proofs.laws.exposed_functions_agree_under.Goals as goal

pub returns : goal.returns
returns c = exposed_functions_agree_under
