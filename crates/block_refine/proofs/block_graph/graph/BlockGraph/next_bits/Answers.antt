-- The bits of both sides.
use Rattle.std.proofs.Common.{◌∙◌}
use Rattle.pair_decide.specs.Queries.{assigned_to}
use Rattle.block_refine.proofs.block_graph.Taken.{nexts_are, latches_within, lits_inside}
use Rattle.block_refine.proofs.block_graph.graph.BlockGraph.next_bits.Goals as goal

pub node_values-requires : goal.node_values-requires
node_values-requires c = record { each = c.requires.each; increasing = c.requires.increasing; below = c.requires.below }

pub put_nexts-requires-clause-latches : goal.put_nexts-requires-clause-latches
put_nexts-requires-clause-latches c =
    latches_within c.args.nets.now.left.now c.keeps.ensures.sound c.args.self.now.aig c.args.self.now.left c.requires.graph.left_on c.latches.result.now c.deref.result.now c.latches.ensures c.deref.ensures.value

pub put_nexts-requires-clause-lits : goal.put_nexts-requires-clause-lits
put_nexts-requires-clause-lits c =
    lits_inside c.args.nets.now.left.now c.args.self.now.aig c.args.self.now.left c.requires.graph.left_on c.deref.result.now c.deref-2.result.now (assigned_to c.args.vars.now c.args.bits.now) c.deref.ensures.value (c.deref-2.ensures.value ∙ c.in_ok-values.ensures)

pub put_nexts-requires-2-clause-latches : goal.put_nexts-requires-2-clause-latches
put_nexts-requires-2-clause-latches c =
    latches_within c.args.nets.now.right.now c.keeps-2.ensures.sound c.args.self.now.aig c.args.self.now.right c.requires.graph.right_on c.latches-2.result.now c.deref-3.result.now c.latches-2.ensures c.deref-3.ensures.value

pub put_nexts-requires-2-clause-lits : goal.put_nexts-requires-2-clause-lits
put_nexts-requires-2-clause-lits c =
    lits_inside c.args.nets.now.right.now c.args.self.now.aig c.args.self.now.right c.requires.graph.right_on c.deref-3.result.now c.deref-4.result.now (assigned_to c.args.vars.now c.args.bits.now) c.deref-3.ensures.value (c.deref-4.ensures.value ∙ c.in_ok-values.ensures)

pub returns : goal.returns
returns c = λ x read.
    nexts_are c.args.nets.now c.args.self.now c.requires.graph c.keeps.ensures.sound c.keeps-2.ensures.sound (assigned_to c.args.vars.now c.args.bits.now) x read c.new-made.result.items c.put_nexts.new.made.items c.put_nexts-2.new.made.items c.latches.result.now
    c.latches-2.result.now c.deref.result.now c.deref-3.result.now c.deref-2.result.now c.deref-4.result.now c.new-made.ensures.items c.latches.ensures c.latches-2.ensures c.deref.ensures.value c.deref-3.ensures.value
    (c.deref-2.ensures.value ∙ c.in_ok-values.ensures) (c.deref-4.ensures.value ∙ c.in_ok-values.ensures) c.in_ok-put_nexts.ensures c.in_ok-put_nexts-2.ensures
