-- One class after the other.
use Rattle.std.proofs.Common.{ℕ, List, get_or, refl, subst, arith}
use Rattle.std.proofs.lemmas.List.{take_all}
use Rattle.event_form.specs.event_findings.unshown_pairs.Telling.{HaveTold}
use Rattle.event_form.proofs.event_findings.unshown_pairs.EachTwo.{next_told, none_told}
use Rattle.event_form.proofs.event_findings.unshown_pairs.separations.tell_each.Goals as goal

pub loop-j-init : goal.loop-j-init
loop-j-init c = none_told c.args.events.now.events c.args.aparts.now c.args.low c.args.others.now c.args.told.now

pub loop-j-preserved : goal.loop-j-preserved
loop-j-preserved c =
    next_told c.args.events.now.events c.args.aparts.now c.args.low c.args.others.now c.loop-j.j (get_or c.args.others.now c.loop-j.j 0) c.args.told.now c.loop-j.told c.push.new.self c.in_ok-one.one (omega (arith, c.loop-j-test.true)) refl c.loop-j.invariant c.in_ok-one.ensures c.in_ok-push.ensures.ok

pub returns : goal.returns
returns c =
    subst (λ (ks : List ℕ). HaveTold c.args.events.now.events c.args.aparts.now c.args.low ks c.args.told.now c.loop-j.told) (take_all c.loop-j.j c.args.others.now (omega (arith, c.loop-j-test.false))) c.loop-j.invariant
