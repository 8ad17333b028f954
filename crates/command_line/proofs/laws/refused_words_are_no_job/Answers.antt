use Rattle.command_line.proofs.TakenWords.{assumed_is_refused, settles_is_refused}
use Rattle.command_line.proofs.laws.refused_words_are_no_job.Goals as goal

pub returns : goal.returns
returns c = record { of_assumed = assumed_is_refused; of_settles = settles_is_refused }
