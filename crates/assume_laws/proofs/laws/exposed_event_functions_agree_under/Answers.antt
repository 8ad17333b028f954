use Rattle.assume_laws.proofs.EventLaws.{exposed_event_functions_agree_under}
use Rattle.assume_laws.proofs.laws.exposed_event_functions_agree_under.Goals as goal

pub returns : goal.returns
returns c = exposed_event_functions_agree_under
