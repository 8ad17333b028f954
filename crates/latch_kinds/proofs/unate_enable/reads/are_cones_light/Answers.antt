-- One signal more.
use Rattle.std.proofs.Common.{◌≡◌, ◌∙◌, length, ap, arith}
use Rattle.flat_net.specs.Weights.{weight_at}
use Rattle.latch_kinds.proofs.unate_enable.Light.{sum_to, sum_to-more, cones_light}
use Rattle.latch_kinds.proofs.unate_enable.reads.are_cones_light.Goals as goal

pub loop-s-preserved : goal.loop-s-preserved
loop-s-preserved c =
    let more = sum_to-more (weight_at c.args.net.now) c.loop-s.s in
    record { counted = omega (arith, more, c.loop-s.invariant.counted, c.in-Some.ensures.here); small = omega (arith, c.loop-s.invariant.small, c.in-Some.ensures.room) }

pub returns : goal.returns
returns c = λ e.
    let whole : c.loop-s.s ≡ length c.args.net.now.drivers = omega (arith, c.loop-s-test.false, c.loop-s.auto.s-end, c.size-s-end.ensures) in
    cones_light c.args.net.now c.keeps.ensures.sound c.loop-s.total (c.loop-s.invariant.counted ∙ ap (sum_to (weight_at c.args.net.now)) whole) c.loop-s.invariant.small
