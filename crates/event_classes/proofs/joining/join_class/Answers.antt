-- A latch that agrees with all members of a class.
use Rattle.std.proofs.Common.{◌≡◌, ◌∙◌, ◌+◌, suc, List, length, slice_get, slice_set, Some, sym, ap, subst, arith}
use Rattle.std.proofs.lemmas.Option.{slice_get-get_or}
use Rattle.std.specs.Vec.{with_item}
use Rattle.class_search.specs.declared.class.Class.{Class}
use Rattle.event_classes.specs.declared.map.ClassMap.{ClassMap}
use Rattle.event_classes.specs.Map.{FitsIn}
use Rattle.event_classes.proofs.Limiting.{both_ok}
use Rattle.event_classes.proofs.NextLatch.{class_goes_on}
use Rattle.event_classes.proofs.joining.join_class.Goals as goal

pub put-requires : goal.put-requires
put-requires c = c.requires.absent

pub index_mut-requires : goal.index_mut-requires
index_mut-requires c = let long : length c.take_latch.new.map.classes.items ≡ length c.args.map.now.classes.items = ap (λ (m : ClassMap). length m.classes.items) c.take_latch.ensures.rest in omega (arith, c.requires.place, long)

pub returns : goal.returns
returns c =
    let joined : ClassMap = record c.take_latch.new.map { classes = with_item c.take_latch.new.map.classes c.args.place c.join.new.self } in
    let next : suc c.args.place ≡ c.args.place + 1 = omega arith in
    let number : c.args.place + 1 ≡ suc c.args.place = omega arith in
    let same : c.take_latch.new.map.classes.items ≡ c.args.map.now.classes.items = ap (λ (m : ClassMap). m.classes.items) c.take_latch.ensures.rest in
    let long : length c.take_latch.new.map.classes.items ≡ length c.args.map.now.classes.items = ap length same in
    let here : slice_get c.args.map.now.classes.items c.args.place ≡ Some c.index_mut.result.now = subst (λ (cs : List Class). slice_get cs c.args.place ≡ Some c.index_mut.result.now) same (slice_get-get_or c.take_latch.new.map.classes.items c.args.place c.index_mut.result.now (omega (arith, c.requires.place, long)) ∙ ap Some (sym c.index_mut.ensures.value)) in
    both_ok c.join.result _ _ (λ tags enables. class_goes_on c.args.map.now joined c.args.tag (c.args.place + 1) c.args.enable (record { left_sound = c.keeps.ensures.sound; right_sound = c.keeps-2.ensures.sound; left = c.keeps.ensures.circuit; right = c.keeps-2.ensures.circuit; events = c.keeps-3.ensures.events }) c.requires.latch c.requires.enable (subst (FitsIn c.args.map.now c.args.tag) next c.requires.fits) c.in_ok-take_latch.ensures.set
    c.in_ok-take_latch.ensures.taken (ap (λ (m : ClassMap). m.events) c.take_latch.ensures.rest) (ap (λ (m : ClassMap). m.left_count) c.take_latch.ensures.rest) (ap (λ (m : ClassMap). m.right_count) c.take_latch.ensures.rest) (ap (λ (m : ClassMap). m.table) c.take_latch.ensures.rest ∙ c.in_ok-put.ensures.ok)
    c.args.place c.index_mut.result.now c.join.new.self number here tags enables c.requires.ready c.requires.own (ap (λ (cs : List Class). slice_set cs c.args.place c.join.new.self) same) (ap (λ (m : ClassMap). m.aparts.items) c.take_latch.ensures.rest)) c.join.ensures.tags c.join.ensures.enables
