use Rattle.event_under.proofs.Sequences.{always_show}
use Rattle.event_under.proofs.laws.always_differences_show_under.Goals as goal

pub returns : goal.returns
returns c = always_show
