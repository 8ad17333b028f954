use Rattle.command_line.proofs.Allowed.{is_allowed}
use Rattle.command_line.proofs.laws.jobs_are_allowed.Goals as goal

pub returns : goal.returns
returns c = is_allowed
