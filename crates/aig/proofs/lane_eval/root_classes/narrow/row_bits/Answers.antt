use Rattle.std.proofs.Common.{arith}
use Rattle.std.proofs.lemmas.Option.{slice_get_within}
use Rattle.aig.specs.lane_eval.root_classes.Rows.{row_of}
use Rattle.aig.proofs.lane_eval.root_classes.Assigned.{inputs-within, inputs-distinct, row-step, row-is}
use Rattle.aig.proofs.lane_eval.root_classes.narrow.row_bits.Goals as goal

pub assign-requires-clause-within : goal.assign-requires-clause-within
assign-requires-clause-within c = λ k d inside. omega (arith, inputs-within c.args.aig.now c.args.vars.now c.requires.vars k d inside, c.requires.covers)

pub assign-requires-clause-distinct : goal.assign-requires-clause-distinct
assign-requires-clause-distinct c = inputs-distinct c.args.aig.now c.keeps.ensures.graph c.args.vars.now c.requires.vars

pub loop-i-preserved : goal.loop-i-preserved
loop-i-preserved c =
    row-step (row_of c.args.aig.now c.args.vars.now c.args.roots.now c.args.number) c.loop-i.bits c.loop-i.i c.lit_bit.result
    (row-is c.args.aig.now c.keeps.ensures.graph c.args.vars.now c.requires.vars c.args.roots.now c.args.number c.assign.new.assignment c.node_bits.new.scratch c.nodes.result.now c.loop-i.i c.lit_bit.result
    c.nodes.ensures.nodes c.node_bits.ensures c.assign.ensures c.lit_bit.ensures) c.loop-i.invariant

pub returns : goal.returns
returns c = λ i b at. c.loop-i.invariant i b (omega (arith, slice_get_within c.loop-i.bits i b at, c.loop-i.auto.bits, c.requires.each, c.loop-i-test.false)) at
