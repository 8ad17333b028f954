use Rattle.std.proofs.Common.{◌≡◌, ◌-◌, ◌++◌}
use Rattle.rand_core.specs.Steps.{first_words}
use Rattle.rand_xoshiro.specs.Xoshiro256.{plus_plus}
use Rattle.job_gen.proofs.pair_gen.words.words_of.Given as goal

abbrev pub invariant-loop-n : goal.invariant-loop-n
invariant-loop-n l = l.words.items ++ first_words plus_plus (5040 - l._n) l.generator ≡ first_words plus_plus 5040 l.initial.generator
