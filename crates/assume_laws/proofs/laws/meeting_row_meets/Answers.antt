use Rattle.assume_laws.proofs.Meeting.{meeting_row_meets}
use Rattle.assume_laws.proofs.laws.meeting_row_meets.Goals as goal

pub returns : goal.returns
returns c = meeting_row_meets
