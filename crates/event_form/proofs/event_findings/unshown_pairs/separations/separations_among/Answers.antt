-- One class after the other.
use Rattle.std.proofs.Common.{◌+◌, ◌-◌, ℕ, List, get_or, refl, subst, arith}
use Rattle.std.proofs.lemmas.List.{drop_all, take_rest}
use Rattle.event_form.specs.event_findings.unshown_pairs.Telling.{HaveTold}
use Rattle.event_form.proofs.event_findings.unshown_pairs.EachTwo.{all_told, begin_told, more_told}
use Rattle.event_form.proofs.event_findings.unshown_pairs.separations.separations_among.Goals as goal

pub loop-i-init : goal.loop-i-init
loop-i-init c = begin_told c.args.events.now.events c.args.aparts.now c.args.classes.now c.new-told.result c.new-told.ensures

pub loop-i-preserved : goal.loop-i-preserved
loop-i-preserved c =
    let w = c.args.events.now.events in
    let low = get_or c.args.classes.now c.loop-i.i 0 in
    more_told w c.args.aparts.now c.args.classes.now c.loop-i.i low c.loop-i.told c.tell_each.new.told (omega (arith, c.loop-i-test.true)) refl c.loop-i.invariant
    (subst (λ (ks : List ℕ). HaveTold w c.args.aparts.now low ks c.loop-i.told c.tell_each.new.told) (take_rest c.args.classes.now (c.loop-i.i + 1)) c.in_ok-tell_each.ensures)

pub returns : goal.returns
returns c = all_told c.args.events.now.events c.args.aparts.now c.args.classes.now c.loop-i.i c.loop-i.told (drop_all c.loop-i.i c.args.classes.now (omega (arith, c.loop-i-test.false))) c.loop-i.invariant
