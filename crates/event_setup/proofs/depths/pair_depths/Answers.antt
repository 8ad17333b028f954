-- One pair's depth more.
use Rattle.std.proofs.Common.{◌∙◌, List, refl, sym, subst}
use Rattle.std.specs.List.{AllZip}
use Rattle.std.proofs.lemmas.List.{take_all}
use Rattle.std.proofs.lemmas.Option.{same_Some}
use Rattle.class_search.proofs.event_order.LatchDepths.{item_at, zip_more}
use Rattle.flat_net.proofs.Places.{All-at}
use Rattle.sec_setup.specs.declared.ports.pairs.SignalPair.{SignalPair}
use Rattle.event_setup.specs.Setup.{IsPairDepthIn, IsPairWithin}
use Rattle.event_setup.proofs.depths.pair_depths.Goals as goal

pub pair_depth-requires-clause-pair : goal.pair_depth-requires-clause-pair
pair_depth-requires-clause-pair c =
    let pairs = c.args.pairs.now in
    let at = item_at pairs pairs c.loop-pair.pair-index c.pair-item.result refl c.loop-pair-test.true c.pair-item.is in
    All-at (IsPairWithin c.args.nets.now.left.now c.args.nets.now.right.now) pairs c.loop-pair.pair-index c.pair-item.result at c.requires.pairs

pub loop-pair-preserved : goal.loop-pair-preserved
loop-pair-preserved c =
    let m = c.args.nets.now.left.now in
    let k = c.args.nets.now.right.now in
    let pairs = c.args.pairs.now in
    let i = c.loop-pair.pair-index in
    let at = item_at pairs pairs i c.pair-item.result refl c.loop-pair-test.true c.pair-item.is in
    zip_more (IsPairDepthIn m k) pairs c.loop-pair.depths c.push.new.self i c.pair_depth.result c.loop-pair-test.true c.loop-pair.invariant
    (λ p here. subst (λ (z : SignalPair). IsPairDepthIn m k z c.pair_depth.result) (same_Some c.pair-item.result p (sym at ∙ here)) c.pair_depth.ensures) c.in_ok-push.ensures.ok

pub returns : goal.returns
returns c =
    subst (λ (ps : List SignalPair). AllZip (IsPairDepthIn c.args.nets.now.left.now c.args.nets.now.right.now) ps c.loop-pair.depths)
    (take_all c.loop-pair.pair-index c.args.pairs.now c.loop-pair-test.false) c.loop-pair.invariant
