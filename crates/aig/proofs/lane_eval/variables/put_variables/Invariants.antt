use Rattle.std.proofs.Common.{◌≡◌, ℕ, ◌+◌, ◌*◌, ◌<◌, take}
use Rattle.std.specs.Prelude.{All}
use Rattle.aig.specs.circuit_theory.Query.{bits_of}
use Rattle.aig.specs.lane_eval.Blocks.{IsBlock, lane}
use Rattle.aig.proofs.lane_eval.variables.put_variables.Given as goal

abbrev pub invariant-loop-place : goal.invariant-loop-place
invariant-loop-place l = record {
  sound : All IsBlock (take l.place l.blocks);
  done : (k : ℕ) → k < 512 → lane k (take l.place l.blocks) ≡ bits_of (512 * l.number + k) l.place;
}
