-- Two classes more are told apart.
use Rattle.std.proofs.Common.{◌∙◌, List, refl, sym, subst}
use Rattle.std.specs.List.{AllZip}
use Rattle.std.proofs.lemmas.List.{take_all}
use Rattle.std.proofs.lemmas.Option.{same_Some}
use Rattle.class_search.proofs.event_order.LatchDepths.{item_at, zip_more}
use Rattle.flat_net.proofs.Places.{All-at}
use Rattle.event_setup.specs.event_meaning.event_names.event_fits.ToldSeparation.{ToldSeparation}
use Rattle.event_setup.specs.event_meaning.event_names.event_fits.Named.{NamesSeparation}
use Rattle.event_setup.specs.event_meaning.event_names.Nameable.{IsSeparationIn}
use Rattle.event_setup.proofs.event_meaning.event_names.names.named_separations.Goals as goal

pub named_separation-requires : goal.named_separation-requires
named_separation-requires c =
    let told = c.args.told.now in
    let at = item_at told told c.loop-x.x-index c.x-item.result refl c.loop-x-test.true c.x-item.is in
    All-at (IsSeparationIn c.args.names.now) told c.loop-x.x-index c.x-item.result at c.requires

pub loop-x-preserved : goal.loop-x-preserved
loop-x-preserved c =
    let n = c.args.names.now in
    let told = c.args.told.now in
    let i = c.loop-x.x-index in
    let at = item_at told told i c.x-item.result refl c.loop-x-test.true c.x-item.is in
    zip_more (NamesSeparation n.left n.right n.columns) told c.loop-x.apart c.push.new.self i c.in_ok-named_separation.field-0 c.loop-x-test.true c.loop-x.invariant
    (λ p here. subst (λ (z : ToldSeparation). NamesSeparation n.left n.right n.columns z c.in_ok-named_separation.field-0) (same_Some c.x-item.result p (sym at ∙ here)) c.in_ok-named_separation.ensures) c.in_ok-push.ensures.ok

pub returns : goal.returns
returns c =
    subst (λ (xs : List ToldSeparation). AllZip (NamesSeparation c.args.names.now.left c.args.names.now.right c.args.names.now.columns) xs c.loop-x.apart)
    (take_all c.loop-x.x-index c.args.told.now c.loop-x-test.false) c.loop-x.invariant
