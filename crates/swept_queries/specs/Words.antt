-- The random words that assignments are tried with.
use Rattle.std.specs.Prelude.{ℕ, ◌*◌, List}
use Rattle.rand_core.specs.Steps.{first_words}
use Rattle.rand_xoshiro.specs.SplitMix64.{splitmix_seed}
use Rattle.rand_xoshiro.specs.Xoshiro256.{of_seed, plus_plus}

-- The first words of xoshiro256++ from the state that SplitMix64 makes of the seed 1: eight for each variable, in the variables' order.
unfoldable pub words_for : ℕ → List ℕ
words_for variables = first_words plus_plus (8 * variables) (of_seed (splitmix_seed 32 1))
