use Rattle.std.proofs.Common.{ℕ, ◌/◌, ◌%◌, ◌^◌, ap}
use Rattle.std.specs.Prelude.{◌==◌}
use Rattle.swept_queries.specs.sweep.lane_eval.Blocks.{word_bit}
use Rattle.swept_queries.proofs.words.bit_at.Goals as goal

pub returns : goal.returns
unfolding word_bit
returns c = ap (λ (w : ℕ). (w / 2 ^ (c.args.lane % 64)) % 2 == 1) c.word_at.ensures
