-- One signal more.
use Rattle.std.proofs.Common.{◌∙◌, ◌<◌, refl, ap, arith, length}
use Rattle.std.specs.List.{sum_by}
use Rattle.std.proofs.lemmas.List.{take_all}
use Rattle.std.proofs.lemmas.List.Elements.{All-get_or}
use Rattle.flat_net.specs.Weights.{weight_at}
use Rattle.std.proofs.lemmas.List.Sums.{sum_by_more, sum_by_more_le}
use Rattle.latch_kinds.proofs.unate_enable.reads.are_light.Goals as goal

pub weigh-requires : goal.weigh-requires
weigh-requires c = All-get_or (λ s. s < length c.args.net.now.drivers) c.args.signals.now c.loop-s.s-index _ c.loop-s-test.true c.requires

pub loop-s-preserved : goal.loop-s-preserved
loop-s-preserved c =
    let more = sum_by_more (weight_at c.args.net.now) c.args.signals.now c.loop-s.s-index 0 c.loop-s-test.true in
    record { counted = omega (arith, more, c.loop-s.invariant.counted, c.in-Some.ensures.here); small = omega (arith, c.loop-s.invariant.small, c.in-Some.ensures.room) }

pub returns-in_default : goal.returns-in_default
returns-in_default c =
    let more = sum_by_more_le (weight_at c.args.net.now) c.args.signals.now c.loop-s.s-index 0 c.loop-s-test.true in
    (λ e. cc, λ few. absurd (omega (arith, few, more, c.loop-s.invariant.counted, c.in_default.ensures.none)))

pub returns : goal.returns
returns c =
    let all = c.loop-s.invariant.counted ∙ ap (sum_by (weight_at c.args.net.now)) (take_all c.loop-s.s-index c.args.signals.now c.loop-s-test.false) in
    (λ e. omega (arith, all, c.loop-s.invariant.small), λ few. refl)
