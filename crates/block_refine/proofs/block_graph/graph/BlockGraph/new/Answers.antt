-- Both sides on one graph.
use Rattle.std.proofs.Common.{◌+◌, length, refl, ap, arith}
use Rattle.block_refine.proofs.block_graph.Making.{on_grows, blocks_few, left_blocks, right_blocks, left_variables, right_variables, is_block_graph}
use Rattle.block_refine.proofs.block_graph.graph.BlockGraph.new.Goals as goal

pub net_lits-requires-clause-small : goal.net_lits-requires-clause-small
net_lits-requires-clause-small c = left_blocks c.args.nets.now c.requires c.keeps.ensures.sound c.keeps-2.ensures.sound c.first_block-first.result c.first_block-first.ensures.small (length c.latches-count.result.now) (ap length c.latches-count.ensures)

pub net_lits-requires-2-clause-small : goal.net_lits-requires-2-clause-small
net_lits-requires-2-clause-small c = right_blocks c.args.nets.now c.requires c.keeps.ensures.sound c.keeps-2.ensures.sound c.first_block-first.result c.first_block-first.ensures.small (length c.latches-count.result.now) (ap length c.latches-count.ensures)

pub net_lits-requires-clause-variables : goal.net_lits-requires-clause-variables
net_lits-requires-clause-variables c = λ w.
    left_variables c.args.nets.now c.requires c.keeps.ensures.sound c.keeps-2.ensures.sound c.first_block-first.result c.first_block-first.ensures.small (length c.latches-count.result.now) (ap length c.latches-count.ensures) w

pub net_lits-requires-2-clause-variables : goal.net_lits-requires-2-clause-variables
net_lits-requires-2-clause-variables c = λ w.
    right_variables c.args.nets.now c.requires c.keeps.ensures.sound c.keeps-2.ensures.sound c.first_block-first.result c.first_block-first.ensures.small (length c.latches-count.result.now) (ap length c.latches-count.ensures) w

pub overflow_cast-limit : goal.overflow_cast-limit
overflow_cast-limit c = let few = blocks_few c.args.nets.now c.requires c.keeps.ensures.sound c.keeps-2.ensures.sound in omega (arith, few)

pub overflow_add-limit : goal.overflow_add-limit
overflow_add-limit c = let few = blocks_few c.args.nets.now c.requires c.keeps.ensures.sound c.keeps-2.ensures.sound in omega (arith, few, c.first_block-first.ensures.small)

pub returns : goal.returns
returns c =
    is_block_graph c.args.nets.now c.requires c.keeps.ensures.sound c.keeps-2.ensures.sound c.first_block-first.result c.first_block-first.ensures.small (length c.latches-count.result.now) (ap length c.latches-count.ensures)
    (record { aig = c.net_lits-2.new.aig; left = c.in_ok-left.left; right = c.in_ok-right.right; limit = c.first_block-first.result + length c.args.nets.now.blocks.now }) c.first_block-first.ensures.left c.first_block-first.ensures.right
    c.in_ok-left.ensures.inputs c.in_ok-left.ensures.latches c.in_ok-right.ensures.inputs c.in_ok-right.ensures.latches refl c.keeps-4.ensures.graph
    (on_grows c.args.nets.now.left.now c.net_lits.new.aig c.net_lits-2.new.aig c.keeps-3.ensures.graph c.in_ok-right.ensures.grows c.in_ok-left.left c.in_ok-left.ensures.on) c.in_ok-right.ensures.on

pub slice_bounds-net_lits-count : goal.slice_bounds-net_lits-count
slice_bounds-net_lits-count c = let count = ap length c.latches-count.ensures in omega (arith, count, c.requires.each)

pub slice_bounds-net_lits-start : goal.slice_bounds-net_lits-start
slice_bounds-net_lits-start c = let count = ap length c.latches-count.ensures in omega (arith, count, c.requires.each)

pub net_lits-requires-clause-room : goal.net_lits-requires-clause-room
net_lits-requires-clause-room c = let one = ap length c.in_ok-aig.ensures in omega (arith, one, c.requires.left_light)

pub net_lits-requires-2-clause-room : goal.net_lits-requires-2-clause-room
net_lits-requires-2-clause-room c = let one = ap length c.in_ok-aig.ensures in omega (arith, one, c.in_ok-left.ensures.few, c.requires.left_light, c.requires.right_light)

pub first_block-first-requires : goal.first_block-first-requires
first_block-first-requires c = record { left = c.requires.left_small; right = c.requires.right_small }
