-- The enable is that of the latch of both circuits side by side.
use Rattle.std.proofs.Common.{Err, sym, ap, subst}
use Rattle.std.proofs.lemmas.Result.{err_from_is_err_and}
use Rattle.class_search.specs.event_order.Order.{IsTagOf}
use Rattle.event_classes.specs.declared.map.ClassMap.{ClassMap}
use Rattle.event_classes.proofs.Enabling.{enable_on, own_on, side_of_two}
use Rattle.event_classes.proofs.Limiting.{error_is, no_error}
use Rattle.event_classes.proofs.enables.next_enable.Goals as goal

pub returns-clause-enable : goal.returns-clause-enable
returns-clause-enable c = λ on.
    enable_on c.args.tag.side c.side_enable.new.map.left c.side_enable.new.map.right c.side_enable.new.map.events c.args.tag.latch c.in_ok-made.made
    (record { left_sound = c.keeps.ensures.sound; right_sound = c.keeps-2.ensures.sound; left = c.keeps.ensures.circuit; right = c.keeps-2.ensures.circuit; events = c.keeps-3.ensures.events }) (subst (λ (o : ClassMap). IsTagOf o.left.net o.right.net c.args.tag) (sym c.side_enable.ensures.same) c.requires.latch)
    (side_of_two c.args.tag.side c.side_enable.new.map c.args.tag.latch c.in_ok-made.made c.in_ok-made.ensures.enable) on

pub returns-clause-own : goal.returns-clause-own
returns-clause-own c = λ on.
    own_on c.args.tag.side c.side_enable.new.map.left c.side_enable.new.map.right c.side_enable.new.map.events c.args.tag.latch c.in_ok-made.made
    (record { left_sound = c.keeps.ensures.sound; right_sound = c.keeps-2.ensures.sound; left = c.keeps.ensures.circuit; right = c.keeps-2.ensures.circuit; events = c.keeps-3.ensures.events }) (subst (λ (o : ClassMap). IsTagOf o.left.net o.right.net c.args.tag) (sym c.side_enable.ensures.same) c.requires.latch)
    (side_of_two c.args.tag.side c.side_enable.new.map c.args.tag.latch c.in_ok-made.made c.in_ok-made.ensures.enable) on

pub returns-in_err-made-clause-large : goal.returns-in_err-made-clause-large
returns-in_err-made-clause-large c =
    let p = err_from_is_err_and c.from_residual.result c.from_residual.ensures.1 in
    λ side. rw (p.1, p.2) (λ is. c.in_err-made.ensures.large side (ap Err (error_is is)))

pub returns-in_err-made-clause-limit : goal.returns-in_err-made-clause-limit
returns-in_err-made-clause-limit c =
    let p = err_from_is_err_and c.from_residual.result c.from_residual.ensures.1 in
    λ latch other proof. rw (p.1, p.2) (λ is. c.in_err-made.ensures.limit latch other proof (ap Err (error_is is)))

pub returns-clause-many : goal.returns-clause-many
returns-clause-many c = λ is. absurd (no_error is)

pub returns-clause-large : goal.returns-clause-large
returns-clause-large c = λ side is. absurd (no_error is)

pub returns-clause-limit : goal.returns-clause-limit
returns-clause-limit c = λ latch other proof is. no_error is
