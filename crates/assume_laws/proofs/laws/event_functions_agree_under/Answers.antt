use Rattle.assume_laws.proofs.EventLaws.{event_functions_agree_under}
use Rattle.assume_laws.proofs.laws.event_functions_agree_under.Goals as goal

pub returns : goal.returns
returns c = event_functions_agree_under
