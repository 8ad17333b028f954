-- One bit more.
use Rattle.std.proofs.Common.{◌∙◌, List, length, ap, sym, subst, arith}
use Rattle.std.specs.List.{AllZip}
use Rattle.std.proofs.lemmas.List.{take_all}
use Rattle.std.proofs.lemmas.Option.{same_Some}
use Rattle.circuit_theory.proofs.Lists.{of_at}
use Rattle.class_search.proofs.event_order.LatchDepths.{item_at, zip_more}
use Rattle.flat_net.specs.declared.parts.LatchAt.{LatchAt}
use Rattle.event_setup.specs.Cutting.{HasBit}
use Rattle.event_setup.proofs.cutting.bits_left.Goals as goal

pub is_enabled-requires : goal.is_enabled-requires
is_enabled-requires c =
    let m = c.args.cut.now in
    let at = item_at m.latches c.latches-latch-items.result.now c.loop-latch.latch-index c.latch-item.result c.latches-latch-items.ensures c.loop-latch-test.true c.latch-item.is in
    record { marked = c.requires.marked; stands = c.requires.left c.latch-item.result (of_at m.latches c.loop-latch.latch-index c.latch-item.result at) }

pub loop-latch-preserved : goal.loop-latch-preserved
loop-latch-preserved c =
    let n = c.args.net.now in
    let m = c.args.cut.now in
    let i = c.loop-latch.latch-index in
    let l = c.latch-item.result in
    let at = item_at m.latches c.latches-latch-items.result.now i l c.latches-latch-items.ensures c.loop-latch-test.true c.latch-item.is in
    zip_more (HasBit n) m.latches c.loop-latch.bits c.push.new.self i c.is_enabled.result (let e = ap length c.latches-latch-items.ensures in omega (arith, e, c.loop-latch-test.true)) c.loop-latch.invariant
    (λ k here. subst (λ (z : LatchAt). HasBit n z c.is_enabled.result) (same_Some l k (sym at ∙ here)) c.is_enabled.ensures) c.in_ok-push.ensures.ok

pub returns : goal.returns
returns c =
    subst (λ (ls : List LatchAt). AllZip (HasBit c.args.net.now) ls c.loop-latch.bits)
    (take_all c.loop-latch.latch-index c.args.cut.now.latches (let e = ap length c.latches-latch-items.ensures in omega (arith, e, c.loop-latch-test.false))) c.loop-latch.invariant
