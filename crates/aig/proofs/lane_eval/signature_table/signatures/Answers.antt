-- The nodes' blocks are the signatures.
use Rattle.std.proofs.Common.{◌≡◌, sym, ap, ◌∙◌, subst, length, List, ℕ, arith}
use Rattle.aig.specs.declared.node.Node.{Node}
use Rattle.aig.specs.Graph.{vars_of}
use Rattle.aig.specs.Values.{node_bits, assigned}
use Rattle.aig.specs.lane_eval.Blocks.{lane}
use Rattle.aig.specs.lane_eval.Signatures.{AreSignatures, AreWordBlocks}
use Rattle.aig.proofs.lane_eval.Signed.{signatures-are, whole}
use Rattle.aig.proofs.lane_eval.signature_table.signatures.Goals as goal

pub returns : goal.returns
returns c =
    let nodes : c.nodes-nodes.result.now ≡ c.args.aig.now = c.nodes-nodes.ensures.nodes in
    let size : length c.node_blocks.new.blocks ≡ length c.args.aig.now = c.node_blocks.ensures.each ∙ ap length nodes in
    let new_len : length c.node_blocks.new.blocks ≡ c.in_ok-blocks.blocks.len = omega (arith, c.in_ok-blocks.ensures.len) in
    let old_len : length c.in_ok-blocks.blocks.items ≡ c.in_ok-blocks.blocks.len = omega (arith, c.in_ok-blocks.ensures.len) in
    let inputs : AreWordBlocks c.args.words.now (vars_of c.args.aig.now) c.as_slice.result.now =
    subst (AreWordBlocks c.args.words.now (vars_of c.args.aig.now)) (sym c.as_slice.ensures.value) (subst (λ (n : ℕ). AreWordBlocks c.args.words.now n c.in_ok-inputs.inputs.items) c.vars.ensures c.in_ok-inputs.ensures) in
    subst (AreSignatures c.args.aig.now c.args.words.now) (sym (whole c.in_ok-blocks.blocks.len c.node_blocks.new.blocks c.in_ok-blocks.blocks.items new_len old_len))
    (signatures-are c.args.aig.now c.args.words.now c.as_slice.result.now c.node_blocks.new.blocks c.requires inputs size c.node_blocks.ensures.blocks
    (λ k inside. c.node_blocks.ensures.bits k inside ∙ ap (λ (g : List Node). node_bits g (assigned (lane k c.as_slice.result.now))) nodes))
