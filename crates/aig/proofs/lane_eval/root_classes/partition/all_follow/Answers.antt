use Rattle.std.proofs.Common.{arith}
use Rattle.std.proofs.lemmas.Bool.{false≢true}
use Rattle.std.proofs.lemmas.Option.{slice_get-get_or, slice_get_within}
use Rattle.aig.proofs.lane_eval.root_classes.Classes.{follows-step}
use Rattle.aig.proofs.lane_eval.root_classes.partition.all_follow.Goals as goal

pub bounds-bits-firsts : goal.bounds-bits-firsts
bounds-bits-firsts c = c.requires.within c.loop-i.i _ (slice_get-get_or c.args.firsts.now c.loop-i.i 0 c.loop-i-test.true)

pub loop-i-preserved : goal.loop-i-preserved
loop-i-preserved c = follows-step c.args.firsts.now c.args.bits.now c.loop-i.i c.loop-i-test.true c.if-bits-i.false c.loop-i.invariant

pub returns-then-bits-i : goal.returns-then-bits-i
returns-then-bits-i c = λ wrong. absurd (false≢true wrong)

pub returns : goal.returns
returns c = λ _ i p at. c.loop-i.invariant i p (omega (arith, slice_get_within c.args.firsts.now i p at, c.loop-i-test.false)) at
