-- The walk ends where each place in the table was looked at, or where the places weigh too much.
use Rattle.std.proofs.Common.{arith, ◌+◌, ◌-◌, ◌<◌}
use Rattle.flat_net.proofs.Places.{All-at}
use Rattle.flat_net.proofs.Drivers.{weight_positive}
use Rattle.cbf_unfold.proofs.unfold_places.Lists.{at_most_one}
use Rattle.cbf_unfold.proofs.unfold_places.Walk.{IsSeen, met_first, met_more, met_all, met_over}
use Rattle.cbf_unfold.proofs.unfold_places.reached.unmet.Goals as goal

pub loop-at-init : goal.loop-at-init
loop-at-init c = met_first _ _ c.args.start c.args.cap _ c.requires.signal c.in_ok-add.ensures.here (at_most_one _ _ _ c.new-table.ensures c.add.ensures.adds c.add.ensures.few)

pub overflow_sub-cap : goal.overflow_sub-cap
overflow_sub-cap c = c.loop-at.invariant.small

pub weigh-requires : goal.weigh-requires
weigh-requires c = (All-at (IsSeen c.args.net.now c.args.start) _ _ _ c.pair-cycle.ensures c.loop-at.invariant.seen).1

pub add_read-requires-clause-signal : goal.add_read-requires-clause-signal
add_read-requires-clause-signal c = (All-at (IsSeen c.args.net.now c.args.start) _ _ _ c.pair-cycle.ensures c.loop-at.invariant.seen).1

pub loop-at-smaller : goal.loop-at-smaller
loop-at-smaller c =
    let some = weight_positive c.args.net.now c.keeps.ensures.sound c.pair-cycle.result.1 in
    let k : c.args.cap - (c.loop-at.at + 1) < c.args.cap - c.loop-at.at = omega (arith, some, c.loop-at.invariant.passed, c.loop-at.invariant.small, c.in-Some.ensures.here, c.in-Some.ensures.room) in
    k

pub loop-at-preserved : goal.loop-at-preserved
loop-at-preserved c =
    met_more _ c.keeps.ensures.sound _ _ _ _ _ _ _ _ _ c.loop-at.invariant c.pair-cycle.ensures c.in-Some.ensures.here c.in-Some.ensures.room c.add_read.ensures.adds c.in_ok-add_read.ensures.all c.add_read.ensures.few

pub returns-in_default-clause-over : goal.returns-in_default-clause-over
returns-in_default-clause-over c =
    λ e. met_over _ _ _ _ _ _ _ _ c.loop-at.invariant c.keeps-in_default.ensures c.pair-cycle.ensures c.in_default.ensures.none

pub returns-clause-unmet : goal.returns-clause-unmet
returns-clause-unmet c = met_all _ _ _ _ _ _ _ c.loop-at.invariant (omega (arith, c.loop-at-test.false, c.len.ensures))
