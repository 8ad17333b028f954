-- One node after the other.
use Rattle.std.proofs.Common.{ℕ, List, get_or, refl, subst, arith}
use Rattle.std.proofs.lemmas.List.{take_all}
use Rattle.event_form.proofs.event_findings.unshown_pairs.Entering.{HaveEntered, entered_all, next_entered, none_entered}
use Rattle.event_form.proofs.event_findings.unshown_pairs.classes.classes_into.Goals as goal

pub loop-i-init : goal.loop-i-init
loop-i-init c = none_entered c.args.events.now.children c.new-classes.result.items c.new-classes.ensures.items

pub loop-i-preserved : goal.loop-i-preserved
loop-i-preserved c =
    next_entered c.args.events.now.children c.args.nodes.now c.loop-i.i (get_or c.args.nodes.now c.loop-i.i 0) c.loop-i.classes.items c.enter.new.classes.items (omega (arith, c.loop-i-test.true)) refl c.loop-i.invariant c.in_ok-enter.ensures

pub returns : goal.returns
returns c =
    entered_all c.args.events.now.children c.args.nodes.now c.loop-i.classes.items c.in_ok-classes.classes.items
    (subst (λ (ns : List ℕ). HaveEntered c.args.events.now.children ns c.loop-i.classes.items) (take_all c.loop-i.i c.args.nodes.now (omega (arith, c.loop-i-test.false))) c.loop-i.invariant) c.in_ok-classes.ensures
