-- One variable more.
use Rattle.std.proofs.Common.{arith, subst}
use Rattle.std.specs.Prelude.{All}
use Rattle.std.proofs.lemmas.List.{take_all}
use Rattle.aig.specs.lane_eval.Blocks.{IsBlock}
use Rattle.aig.proofs.lane_eval.Numbers.{variable-step}
use Rattle.aig.proofs.lane_eval.variables.put_variables.Goals as goal

pub loop-place-preserved : goal.loop-place-preserved
loop-place-preserved c =
    let step = variable-step c.loop-place.blocks c.loop-place.place c.args.number c.variable_block.result (omega arith) c.loop-place.invariant.sound c.variable_block.ensures.block c.loop-place.invariant.done c.variable_block.ensures.bits in
    record { sound = step.0; done = step.1 }

pub returns-clause-blocks : goal.returns-clause-blocks
returns-clause-blocks c = subst (All IsBlock) (take_all c.loop-place.place c.loop-place.blocks (omega arith)) c.loop-place.invariant.sound
