-- A latch that founds a class, where there is room for it.
use Rattle.std.proofs.Common.{◌≡◌, ◌∙◌, ◌+◌, suc, List, [], ◌∷◌, ◌++◌, length, sym, ap, subst, arith}
use Rattle.class_search.specs.declared.class.Class.{Class}
use Rattle.class_search.specs.declared.class_separations.apart.Apart.{Apart}
use Rattle.class_search.specs.class_separations.Telling.{AreToldIn, HasKept}
use Rattle.event_classes.specs.declared.map.ClassMap.{ClassMap}
use Rattle.event_classes.specs.Map.{FitsIn}
use Rattle.event_classes.proofs.NextLatch.{founded_goes_on}
use Rattle.event_classes.proofs.joining.put_founded.Goals as goal

pub keep_apart-requires : goal.keep_apart-requires
keep_apart-requires c = record { told = subst (λ (cs : List Class). AreToldIn c.args.map.now.events cs c.args.told.now) (sym c.as_slice.ensures.value) c.requires.told.0 }

pub put-requires : goal.put-requires
put-requires c = c.requires.absent

pub returns : goal.returns
returns c =
    let founded : ClassMap = record c.take_latch.new.map { classes = c.push.new.self } in
    let next : suc (length c.args.map.now.classes.items) ≡ c.len.result + 1 = omega (arith, c.len.ensures) in
    let number : c.len.result + 1 ≡ suc (length c.args.map.now.classes.items) = omega (arith, c.len.ensures) in
    founded_goes_on c.args.map.now founded c.args.tag (c.len.result + 1) c.args.enable (record { left_sound = c.keeps.ensures.sound; right_sound = c.keeps-2.ensures.sound; left = c.keeps.ensures.circuit; right = c.keeps-2.ensures.circuit; events = c.keeps-3.ensures.events }) c.requires.latch c.requires.enable (subst (FitsIn c.args.map.now c.args.tag) next c.requires.fits) c.in_ok-take_latch.ensures.set
    c.in_ok-take_latch.ensures.taken (ap (λ (m : ClassMap). m.events) c.take_latch.ensures.rest) (ap (λ (m : ClassMap). m.left_count) c.take_latch.ensures.rest) (ap (λ (m : ClassMap). m.right_count) c.take_latch.ensures.rest) (ap (λ (m : ClassMap). m.table) c.take_latch.ensures.rest ∙ c.in_ok-put.ensures.ok)
    c.new-founded.result c.join.new.self number (omega (arith, c.requires.few)) c.new-founded.ensures.tags c.new-founded.ensures.enables c.in_ok-join.ensures.tags c.in_ok-join.ensures.enables c.requires.ready c.requires.own c.args.always c.args.told.now c.requires.told
    (subst (λ (xs : List Apart). HasKept c.args.map.now.events c.args.map.now.classes.items c.args.tag c.args.always c.args.told.now c.args.map.now.aparts.items xs) (sym (ap (λ (m : ClassMap). m.aparts.items) c.take_latch.ensures.rest))
    (subst (λ (cs : List Class). HasKept c.args.map.now.events cs c.args.tag c.args.always c.args.told.now c.args.map.now.aparts.items c.keep_apart.new.aparts.items) c.as_slice.ensures.value c.in_ok-keep_apart.ensures))
    (c.in_ok-push.ensures.items ∙ ap (λ (cs : List Class). cs ++ c.join.new.self ∷ []) (ap (λ (m : ClassMap). m.classes.items) c.take_latch.ensures.rest))
