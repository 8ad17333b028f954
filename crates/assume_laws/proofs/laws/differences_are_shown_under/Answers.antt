use Rattle.assume_laws.proofs.Shown.{differences_are_shown_under}
use Rattle.assume_laws.proofs.laws.differences_are_shown_under.Goals as goal

pub returns : goal.returns
returns c = differences_are_shown_under
