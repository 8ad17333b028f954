use Rattle.std.proofs.Common.{arith}
use Rattle.aig.proofs.lane_eval.Lanes.{first-found, none-more}
use Rattle.aig.proofs.lane_eval.blocks.first_bit.Goals as goal

pub returns-in-Some : goal.returns-in-Some
returns-in-Some c = first-found c.args.block c.loop-i.i c.in-Some.j (omega arith) c.loop-i.invariant c.in-Some.ensures

pub loop-i-preserved : goal.loop-i-preserved
loop-i-preserved c = none-more c.args.block c.loop-i.i c.loop-i.invariant (c.in_default.ensures {u = tt})
