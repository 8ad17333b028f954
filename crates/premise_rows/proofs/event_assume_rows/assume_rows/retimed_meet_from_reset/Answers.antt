use Rattle.premise_rows.proofs.event_assume_rows.assume_rows.FromReset.{retimed_meet_from_reset}
use Rattle.premise_rows.proofs.event_assume_rows.assume_rows.retimed_meet_from_reset.Goals as goal

pub returns : goal.returns
returns c = retimed_meet_from_reset
