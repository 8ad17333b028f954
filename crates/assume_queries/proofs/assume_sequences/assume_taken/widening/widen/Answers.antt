-- The row with zeros behind it is the row.
use Rattle.assume_queries.proofs.assume_sequences.assume_taken.Premises.{widened}
use Rattle.assume_queries.proofs.assume_sequences.assume_taken.widening.widen.Goals as goal

pub returns : goal.returns
returns c = λ names n count is. widened names n count c.args.more c.args.premise c.in_ok-meeting.meeting c.in_ok-meeting.ensures is
