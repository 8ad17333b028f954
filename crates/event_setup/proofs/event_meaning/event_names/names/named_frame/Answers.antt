-- One bit more.
use Rattle.std.proofs.Common.{◌∙◌, List, refl, sym, subst}
use Rattle.std.specs.List.{AllZip}
use Rattle.std.proofs.lemmas.List.{take_all}
use Rattle.std.proofs.lemmas.Option.{same_Some}
use Rattle.event_setup.specs.event_meaning.event_names.event_fits.FrameBit.{FrameBit}
use Rattle.class_search.proofs.event_order.LatchDepths.{item_at, zip_more}
use Rattle.flat_net.proofs.Places.{All-at}
use Rattle.event_setup.specs.event_meaning.event_names.event_fits.Named.{NamesSpot}
use Rattle.event_setup.specs.event_meaning.event_names.Nameable.{IsInputIn}
use Rattle.event_setup.proofs.event_meaning.event_names.names.named_frame.Goals as goal

pub named_spot-requires : goal.named_spot-requires
named_spot-requires c =
    let bits = c.args.bits.now in
    let at = item_at bits bits c.loop-bit.bit-index c.bit-item.result refl c.loop-bit-test.true c.bit-item.is in
    All-at (IsInputIn c.args.columns.now) bits c.loop-bit.bit-index c.bit-item.result at c.requires

pub loop-bit-preserved : goal.loop-bit-preserved
loop-bit-preserved c =
    let names = c.args.columns.now in
    let bits = c.args.bits.now in
    let i = c.loop-bit.bit-index in
    let at = item_at bits bits i c.bit-item.result refl c.loop-bit-test.true c.bit-item.is in
    zip_more (NamesSpot names) bits c.loop-bit.spots c.push.new.self i c.in_ok-named_spot.field-0 c.loop-bit-test.true c.loop-bit.invariant
    (λ p here. subst (λ (z : FrameBit). NamesSpot names z c.in_ok-named_spot.field-0) (same_Some c.bit-item.result p (sym at ∙ here)) c.in_ok-named_spot.ensures) c.in_ok-push.ensures.ok

pub returns : goal.returns
returns c =
    subst (λ (bs : List FrameBit). AllZip (NamesSpot c.args.columns.now) bs c.loop-bit.spots)
    (take_all c.loop-bit.bit-index c.args.bits.now c.loop-bit-test.false) c.loop-bit.invariant
