use Rattle.std.proofs.Common.{◌≡◌, ℕ, ◌<◌, true}
use Rattle.aig.specs.lane_eval.Blocks.{word_bit}
use Rattle.aig.proofs.lane_eval.blocks.first_of.Given as goal

abbrev pub invariant-loop-j : goal.invariant-loop-j
invariant-loop-j l = (i : ℕ) → i < l.j → word_bit l.word i ≡ true → ⊥
