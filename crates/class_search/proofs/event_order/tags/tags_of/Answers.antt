-- One latch more.
use Rattle.std.proofs.Common.{List, subst}
use Rattle.std.specs.List.{AllZip}
use Rattle.std.proofs.lemmas.List.{take_all}
use Rattle.std.proofs.lemmas.Option.{get_or_from_slice_get}
use Rattle.sec_base.specs.declared.basics.Tag.{Tag}
use Rattle.class_search.specs.declared.event_order.turns.Turn.{Turn}
use Rattle.class_search.specs.event_order.Turns.{IsTagAt}
use Rattle.class_search.proofs.event_order.LatchDepths.{zip_more}
use Rattle.class_search.proofs.event_order.tags.tags_of.Goals as goal

pub loop-turn-preserved : goal.loop-turn-preserved
loop-turn-preserved c =
    let R : Turn → Tag → Type 0 = λ turn tag. IsTagAt c.args.first turn.number tag in
    zip_more R c.args.turns.now c.loop-turn.tags.items c.push.new.self.items c.loop-turn.turn-index c.tag_at.result c.loop-turn-test.true c.loop-turn.invariant
    (λ x at. subst (λ (z : Turn). IsTagAt c.args.first z.number c.tag_at.result) (get_or_from_slice_get c.args.turns.now c.loop-turn.turn-index x _ at) c.tag_at.ensures) c.in_ok-push.ensures.items

pub returns : goal.returns
returns c =
    let R : Turn → Tag → Type 0 = λ turn tag. IsTagAt c.args.first turn.number tag in
    subst (λ (l : List Turn). AllZip R l c.loop-turn.tags.items) (take_all c.loop-turn.turn-index c.args.turns.now c.loop-turn-test.false) c.loop-turn.invariant
