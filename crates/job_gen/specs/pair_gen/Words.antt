-- The words of a seed.
use Rattle.std.specs.Prelude.{ℕ, List}
use Rattle.rand_core.specs.Steps.{first_words}
use Rattle.rand_xoshiro.specs.SplitMix64.{splitmix_seed}
use Rattle.rand_xoshiro.specs.Xoshiro256.{of_seed, plus_plus}

-- the first words of xoshiro256++ from the state that SplitMix64 makes of the seed, one for each gate, in the order in which they are drawn
unfoldable pub words_of : ℕ → List ℕ
words_of seed = first_words plus_plus 5040 (of_seed (splitmix_seed 32 seed))
