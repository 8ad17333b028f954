-- The outcome of what is found by the setup.
use Rattle.std.proofs.Common.{length, sym, subst, Ok, Err, inr}
use Rattle.obligations.specs.declared.outcome.verdict.Outcome.{Outcome}
use Rattle.plain_check.specs.declared.under_base.compare_base.error.CompareError.{CompareError}
use Rattle.plain_check.proofs.under_base.compare_base.Forms.{in_always}
use Rattle.plain_check.specs.under_base.Compared.{ComparedUnder}
use Rattle.job_check.proofs.compare_under.CutOutcomes.{over_shared, can_be_premise, is_refused, outcome_is_compared_under}
use Rattle.job_check.proofs.compare_under.comparison.compare_nets.Goals as goal

pub set_up-requires-clause-exposed : goal.set_up-requires-clause-exposed
set_up-requires-clause-exposed c = c.requires.chosen.cut_open

pub compare_plain_under-requires-clause-premise : goal.compare_plain_under-requires-clause-premise
compare_plain_under-requires-clause-premise c =
    let x = c.args.circuits.now in
    let e = c.args.exposure.now in
    let p = c.args.premise.now in
    can_be_premise x.nets.left.now x.nets.right.now x.assumed.now c.args.settings.now e c.in_ok-setup.setup p c.requires.matched.matches c.requires.chosen c.in_ok-setup.ensures.setup c.in_ok-setup.ensures.exposed
    (over_shared x c.requires.matched (length e.names) p c.requires.premise)

pub returns-in-Ok : goal.returns-in-Ok
returns-in-Ok c =
    let x = c.args.circuits.now in
    let e = c.args.exposure.now in
    let p = c.args.premise.now in
    let premise = over_shared x c.requires.matched (length e.names) p c.requires.premise in
    subst (λ (o : Outcome). ComparedUnder x.nets.left.now x.nets.right.now x.assumed.now c.args.settings.now (Ok o)) (sym c.outcome_of.ensures)
    (inr (in_always _ c.args.settings.now.reset c.requires.settling
    (outcome_is_compared_under x.nets.left.now x.nets.right.now x.assumed.now c.args.settings.now e c.in_ok-setup.setup p c.requires.matched.matches c.requires.chosen c.in_ok-setup.ensures.setup
    c.in_ok-setup.ensures.exposed premise c.keeps.ensures.sound c.keeps-2.ensures.sound c.requires.matched.left c.requires.matched.right c.in_ok-name.name
    (c.in_ok-name.ensures premise.assumed.shape.output premise.assumed.shape.outputs) c.in-Ok.findings c.in-Ok.ensures)))

pub returns-in-Err : goal.returns-in-Err
returns-in-Err c =
    let x = c.args.circuits.now in
    let e = c.args.exposure.now in
    let p = c.args.premise.now in
    subst (λ (error : CompareError). ComparedUnder x.nets.left.now x.nets.right.now x.assumed.now c.args.settings.now (Err error)) (sym c.refusal_under.ensures)
    (is_refused x.nets.left.now x.nets.right.now x.assumed.now c.args.settings.now e c.in_ok-setup.setup p c.requires.matched.matches c.requires.chosen c.in_ok-setup.ensures.setup c.in_ok-setup.ensures.exposed
    (over_shared x c.requires.matched (length e.names) p c.requires.premise) c.requires.settling c.in-Err.error c.in-Err.ensures)
