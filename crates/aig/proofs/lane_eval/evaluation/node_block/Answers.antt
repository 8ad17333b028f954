-- The constant, an input, and the and of two literals.
use Rattle.std.proofs.Common.{◌∙◌, ap, sym, length, List, ℕ}
use Rattle.aig.specs.Values.{node_bit, assigned}
use Rattle.aig.specs.lane_eval.Blocks.{block_bit, lane}
use Rattle.aig.proofs.lane_eval.Nodes.{constant-bit, input-bit, input-within}
use Rattle.aig.proofs.lane_eval.evaluation.node_block.Goals as goal
use Rattle.aig.proofs.lane_eval.evaluation.node_block.Goals.{in-Constant, in-Input, in-And}

pub returns-clause-bits : goal.returns-clause-bits
returns-clause-bits c = λ k inside.
    elim c.match-node.branch [
      | in-Constant w ↦ constant-bit c.match-node.result (assigned (lane k c.args.inputs.now)) (lane k c.args.blocks.now) c.args.node k inside w.result-is w.in-Constant.is
      | in-Input w ↦ input-bit c.match-node.result c.args.inputs.now (lane k c.args.blocks.now) c.args.node w.in-Input.v k _ (input-within c.args.node w.in-Input.v (length c.args.inputs.now) w.in-Input.is c.requires.covers) w.result-is w.in-Input.is
      | in-And w ↦ ap (λ (b : List ℕ). block_bit b k) w.result-is ∙ w.and_lits.ensures.bits k inside ∙ sym (ap (node_bit (assigned (lane k c.args.inputs.now)) (lane k c.args.blocks.now)) w.in-And.is)
    ]
