-- One variable more.
use Rattle.std.proofs.Common.{refl, arith}
use Rattle.block_refine.proofs.Trials.{all_more, merged_rises, merged_below}
use Rattle.block_refine.proofs.trial.all_variables.Goals as goal

pub loop-v-preserved : goal.loop-v-preserved
loop-v-preserved c = all_more c.args.limit c.loop-v.all.items c.push.new.self.items c.loop-v.v (omega (arith, c.loop-v-test.true)) c.in_ok-push.ensures.items c.loop-v.invariant

pub returns-clause-increasing : goal.returns-clause-increasing
returns-clause-increasing c = merged_rises c.merged.result _ _ c.merged.ensures

pub returns-clause-below : goal.returns-clause-below
returns-clause-below c = merged_below c.merged.result _ _ c.args.limit c.merged.ensures refl c.loop-v.invariant
