use Rattle.std.proofs.Common.{◌≡◌, ℕ, ◌<◌, length, take}
use Rattle.std.specs.Prelude.{All}
use Rattle.aig.specs.Values.{node_bits, assigned}
use Rattle.aig.specs.lane_eval.Blocks.{IsBlock, lane}
use Rattle.aig.proofs.lane_eval.evaluation.node_blocks.Given as goal

abbrev pub invariant-loop-n : goal.invariant-loop-n
invariant-loop-n l = record {
  places : length l.blocks ≡ length l.nodes;
  sound : All IsBlock (take l.n l.blocks);
  done : (k : ℕ) → k < 512 → lane k (take l.n l.blocks) ≡ node_bits (take l.n l.nodes) (assigned (lane k l.inputs));
}
