-- The loop's invariant holds at first, and after each node.
use Rattle.std.proofs.Common.{ℕ, ◌∙◌, arith, refl, sym, subst, get_or}
use Rattle.std.specs.Prelude.{All}
use Rattle.std.proofs.lemmas.Option.{slice_get-get_or}
use Rattle.std.proofs.lemmas.List.{length-take-le, length-set, take_all}
use Rattle.aig.specs.declared.node.Node.TheVariants.{Constant}
use Rattle.aig.specs.Graph.{IsAbove}
use Rattle.aig.specs.Values.{node_bits, bits_from}
use Rattle.aig.proofs.Insert.{vars_of-member}
use Rattle.aig.specs.lane_eval.Blocks.{IsBlock}
use Rattle.aig.proofs.lane_eval.Nodes.{block-step}
use Rattle.aig.proofs.lane_eval.evaluation.node_blocks.Goals as goal

pub loop-n-init : goal.loop-n-init
unfolding node_bits bits_from
loop-n-init c = record { places = c.requires.places; sound = λ k d h. absurd (omega arith); done = λ k h. refl }

pub node_block-requires-clause-covers : goal.node_block-requires-clause-covers
node_block-requires-clause-covers c =
    omega (arith, c.requires.covers, vars_of-member c.args.nodes.now c.loop-n.n (get_or c.args.nodes.now c.loop-n.n Constant) (slice_get-get_or c.args.nodes.now c.loop-n.n Constant c.loop-n-test.true))

pub node_block-requires-clause-above : goal.node_block-requires-clause-above
node_block-requires-clause-above c =
    let at = slice_get-get_or c.args.nodes.now c.loop-n.n Constant c.loop-n-test.true in
    let len = length-take-le c.loop-n.n c.loop-n.blocks (omega (arith, c.loop-n.invariant.places, c.loop-n-test.true)) in
    subst (λ (k : ℕ). IsAbove k (get_or c.args.nodes.now c.loop-n.n Constant)) (sym len) (c.requires.ordered c.loop-n.n (get_or c.args.nodes.now c.loop-n.n Constant) at)

pub loop-n-preserved : goal.loop-n-preserved
loop-n-preserved c =
    let at = slice_get-get_or c.args.nodes.now c.loop-n.n Constant c.loop-n-test.true in
    let step = block-step c.args.nodes.now (get_or c.args.nodes.now c.loop-n.n Constant) c.args.inputs.now c.loop-n.blocks c.loop-n.n c.node_block.result
    (omega (arith, c.loop-n.invariant.places, c.loop-n-test.true)) at c.loop-n.invariant.sound c.node_block.ensures.block c.loop-n.invariant.done c.node_block.ensures.bits in
    record { places = length-set c.loop-n.blocks c.loop-n.n c.node_block.result ∙ c.loop-n.invariant.places; sound = step.0; done = step.1 }

pub returns-clause-blocks : goal.returns-clause-blocks
returns-clause-blocks c = subst (All IsBlock) (take_all c.loop-n.n c.loop-n.blocks (omega (arith, c.loop-n.invariant.places))) c.loop-n.invariant.sound
