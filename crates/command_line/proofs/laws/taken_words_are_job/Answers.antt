use Rattle.command_line.proofs.Known.{taken_job}
use Rattle.command_line.proofs.laws.taken_words_are_job.Goals as goal

pub returns : goal.returns
returns c = taken_job
