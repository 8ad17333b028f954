use Rattle.premise_rows.proofs.event_class_premises.Members.{members_meet_premises}
use Rattle.premise_rows.proofs.event_class_premises.members_meet_premises.Goals as goal

pub returns : goal.returns
returns c = members_meet_premises
