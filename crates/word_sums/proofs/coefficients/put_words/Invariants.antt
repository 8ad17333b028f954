-- The low bits of both words are put.
use Rattle.std.proofs.Common.{ℕ, ◌+◌, ◌*◌, ◌^◌, Bool, take}
use Rattle.word_sums.specs.Sums.{sum_number, word_number, word_bits, AreCongruent}
use Rattle.word_sums.proofs.coefficients.put_words.Given as goal

abbrev pub invariant-loop-i : goal.invariant-loop-i
invariant-loop-i l =
    AreCongruent l.weight (l.times * 2 ^ l.i)
    × ((f : ℕ → Bool) → AreCongruent (sum_number f 0 l.coefficients + l.times * word_number (word_bits f (take l.i l.right))) (sum_number f 0 l.initial.coefficients + l.times * word_number (word_bits f (take l.i l.left))))
