use Rattle.edbf_unfold.proofs.EventLiterals.{literal_later}
use Rattle.edbf_unfold.proofs.laws.known_later.Goals as goal

pub returns : goal.returns
returns c = literal_later
