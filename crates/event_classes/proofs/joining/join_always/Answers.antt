-- A latch that is always enabled.
use Rattle.std.proofs.Common.{◌∙◌, refl, ap}
use Rattle.event_classes.specs.declared.map.ClassMap.{ClassMap}
use Rattle.event_classes.proofs.Limiting.{both_ok}
use Rattle.event_classes.proofs.NextLatch.{always_goes_on}
use Rattle.event_classes.proofs.joining.join_always.Goals as goal

pub put-requires : goal.put-requires
put-requires c = c.requires.absent

pub returns : goal.returns
returns c =
    both_ok c.take_latch.result _ _ (λ set taken. always_goes_on c.args.map.now c.take_latch.new.map c.args.tag 0 c.args.enable.now (record { left_sound = c.keeps.ensures.sound; right_sound = c.keeps-2.ensures.sound; left = c.keeps.ensures.circuit; right = c.keeps-2.ensures.circuit; events = c.keeps-3.ensures.events }) c.requires.latch c.requires.enable c.requires.fits set
    taken (ap (λ (m : ClassMap). m.events) c.take_latch.ensures.rest) (ap (λ (m : ClassMap). m.left_count) c.take_latch.ensures.rest) (ap (λ (m : ClassMap). m.right_count) c.take_latch.ensures.rest) (ap (λ (m : ClassMap). m.table) c.take_latch.ensures.rest ∙ c.in_ok-put.ensures.ok) refl
    (ap (λ (m : ClassMap). m.classes.items) c.take_latch.ensures.rest) (ap (λ (m : ClassMap). m.aparts.items) c.take_latch.ensures.rest)) c.take_latch.ensures.set c.take_latch.ensures.taken
