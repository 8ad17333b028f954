-- One signal more.
use Rattle.std.proofs.Common.{◌<◌, ◌≤◌, length, refl, arith}
use Rattle.block_refine.proofs.latch_blocks.Weights.{weight_step, weight_room, weight_all}
use Rattle.block_refine.proofs.latch_blocks.weight.is_light.Goals as goal

pub loop-s-preserved : goal.loop-s-preserved
loop-s-preserved c =
    let inside : c.loop-s.s < length c.args.net.now.drivers = omega (arith, c.loop-s-test.true, c.size-s-end.ensures) in
    let more = weight_step c.args.net.now c.loop-s.s inside in
    record { counted = omega (arith, more, c.loop-s.invariant.counted, c.in-Some.ensures.here); small = omega (arith, c.loop-s.invariant.small, c.in-Some.ensures.room) }

pub returns-in_default : goal.returns-in_default
returns-in_default c =
    let inside : c.loop-s.s < length c.args.net.now.drivers = omega (arith, c.loop-s-test.true, c.size-s-end.ensures) in
    let more = weight_room c.args.net.now c.loop-s.s inside in
    (λ e. cc, λ few. absurd (omega (arith, few, more, c.loop-s.invariant.counted, c.in_default.ensures.none)))

pub returns : goal.returns
returns c =
    let past : length c.args.net.now.drivers ≤ c.loop-s.s = omega (arith, c.loop-s-test.false, c.size-s-end.ensures) in
    let all = weight_all c.args.net.now c.loop-s.s past in
    (λ e. omega (arith, all, c.loop-s.invariant.counted, c.loop-s.invariant.small), λ few. refl)
