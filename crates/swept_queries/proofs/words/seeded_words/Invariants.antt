use Rattle.std.proofs.Common.{◌≡◌, ◌-◌, ◌*◌, ◌++◌}
use Rattle.rand_core.specs.Steps.{first_words}
use Rattle.rand_xoshiro.specs.Xoshiro256.{plus_plus}
use Rattle.swept_queries.proofs.words.seeded_words.Given as goal

abbrev pub invariant-loop-n : goal.invariant-loop-n
invariant-loop-n l = l.words.items ++ first_words plus_plus (8 * l.variables - l._n) l.generator ≡ first_words plus_plus (8 * l.variables) l.initial.generator
