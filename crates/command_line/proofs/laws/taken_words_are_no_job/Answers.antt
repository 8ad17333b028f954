use Rattle.command_line.proofs.TakenWords.{other_is_no_job, form_is_no_job, reset_is_no_job, cycles_are_no_job, after_is_no_job, replay_reset_is_no_job, pair_is_no_job, pairs_are_no_job}
use Rattle.command_line.proofs.laws.taken_words_are_no_job.Goals as goal

pub returns : goal.returns
returns c = record {
  of_mode = other_is_no_job;
  of_form = form_is_no_job;
  of_clash = reset_is_no_job;
  of_cycles = cycles_are_no_job;
  of_after = after_is_no_job;
  of_replay = replay_reset_is_no_job;
  of_pair = pair_is_no_job;
  of_pairs = pairs_are_no_job;
}
