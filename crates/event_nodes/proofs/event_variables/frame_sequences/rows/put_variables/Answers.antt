-- One variable more.
use Rattle.std.proofs.Common.{arith}
use Rattle.event_nodes.proofs.event_variables.frame_sequences.Filling.{fill_next}
use Rattle.event_nodes.proofs.event_variables.frame_sequences.rows.put_variables.Goals as goal

pub loop-left-preserved : goal.loop-left-preserved
loop-left-preserved c = record {
  within = omega (arith, c.loop-left.invariant.within);
  rows = fill_next c.args.events.now c.args.vars.now c.args.bits.now c.loop-left.left c.args.last c.args.count c.loop-left.rows.items c.put_variable.new.rows.items c.loop-left.invariant.within c.requires.each c.loop-left-test.true c.put_variable.ensures c.loop-left.invariant.rows;
}
