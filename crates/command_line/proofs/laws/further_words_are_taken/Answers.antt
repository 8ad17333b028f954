use Rattle.command_line.proofs.TakenWords.{settle_is_taken, check_settles_is_taken, replay_settles_is_taken, replay_reset_is_taken, cycles_are_taken, after_is_taken, signals_are_taken, pair_is_taken, pairs_are_taken}
use Rattle.command_line.proofs.laws.further_words_are_taken.Goals as goal

pub returns : goal.returns
returns c = record { of_settle = settle_is_taken; of_check = check_settles_is_taken; of_replay = replay_settles_is_taken; of_replay_reset = replay_reset_is_taken; of_cycles = cycles_are_taken; of_after = after_is_taken; of_signals = signals_are_taken; of_pair = pair_is_taken; of_pairs = pairs_are_taken }
