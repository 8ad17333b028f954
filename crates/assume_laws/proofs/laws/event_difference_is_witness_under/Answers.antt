use Rattle.assume_laws.proofs.Filled.{event_difference_is_witness_under}
use Rattle.assume_laws.proofs.laws.event_difference_is_witness_under.Goals as goal

pub returns : goal.returns
returns c = event_difference_is_witness_under
