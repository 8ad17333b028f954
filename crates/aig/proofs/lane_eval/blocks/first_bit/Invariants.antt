use Rattle.std.proofs.Common.{◌≡◌, ℕ, ◌*◌, ◌<◌, true}
use Rattle.aig.specs.lane_eval.Blocks.{block_bit}
use Rattle.aig.proofs.lane_eval.blocks.first_bit.Given as goal

abbrev pub invariant-loop-i : goal.invariant-loop-i
invariant-loop-i l = (k : ℕ) → k < 64 * l.i → block_bit l.words k ≡ true → ⊥
