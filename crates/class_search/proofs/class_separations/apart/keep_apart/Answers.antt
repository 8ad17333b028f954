-- What tells it from `always` comes first, and then one class after the other.
use Rattle.std.proofs.Common.{◌≡◌, ◌∙◌, ◌<◌, List, length, Some, sym, ap, subst, arith}
use Rattle.std.proofs.lemmas.Option.{slice_get-get_or}
use Rattle.class_search.specs.declared.class_separations.apart.Apart.{Apart}
use Rattle.class_search.specs.class_separations.Telling.{HasKeptTo}
use Rattle.class_search.proofs.class_separations.Kept.{kept_none, kept_next}
use Rattle.class_search.proofs.class_separations.apart.keep_apart.Goals as goal

pub loop-place-init : goal.loop-place-init
loop-place-init c = kept_none c.args.events.now c.args.classes.now c.args.latch c.args.told.now c.push.new.self.items

pub apart_of-requires : goal.apart_of-requires
apart_of-requires c =
    let inside : c.loop-place.place < length c.args.classes.now = omega (arith, c.loop-place-test.true, c.requires.told.few) in
    c.requires.told.each c.loop-place.place c.index-classes-place.result c.index-told-place.result (slice_get-get_or c.args.classes.now c.loop-place.place c.index-classes-place.result inside ∙ ap Some (sym c.index-classes-place.is))
    (slice_get-get_or c.args.told.now c.loop-place.place c.index-told-place.result c.loop-place-test.true ∙ ap Some (sym c.index-told-place.is))

pub loop-place-preserved : goal.loop-place-preserved
loop-place-preserved c =
    let inside : c.loop-place.place < length c.args.classes.now = omega (arith, c.loop-place-test.true, c.requires.told.few) in
    kept_next c.args.events.now c.args.classes.now c.args.latch c.args.told.now c.loop-place.place c.push.new.self.items c.loop-place.aparts.items c.push-in-loop-place.new.self.items c.in_ok-one.one c.index-classes-place.result c.index-told-place.result c.loop-place.invariant c.in_ok-push-2.ensures.items
    (slice_get-get_or c.args.classes.now c.loop-place.place c.index-classes-place.result inside ∙ ap Some (sym c.index-classes-place.is)) (slice_get-get_or c.args.told.now c.loop-place.place c.index-told-place.result c.loop-place-test.true ∙ ap Some (sym c.index-told-place.is)) c.in_ok-one.ensures

pub returns : goal.returns
returns c =
    let end : c.loop-place.place ≡ length c.args.told.now = omega (arith, c.loop-place-test.false, c.loop-place.auto.place-end) in
    subst (λ (xs : List Apart). HasKeptTo c.args.events.now c.args.classes.now c.args.latch c.args.told.now (length c.args.told.now) xs c.loop-place.aparts.items) c.in_ok-push.ensures.items
    (subst (λ k. HasKeptTo c.args.events.now c.args.classes.now c.args.latch c.args.told.now k c.push.new.self.items c.loop-place.aparts.items) end c.loop-place.invariant)
