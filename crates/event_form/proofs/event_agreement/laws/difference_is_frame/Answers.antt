use Rattle.event_form.proofs.event_agreement.PairQueries.{frames_shown}
use Rattle.event_form.proofs.event_agreement.laws.difference_is_frame.Goals as goal

pub returns : goal.returns
returns c = frames_shown
