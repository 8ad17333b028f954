-- The outcome of what is found by the setup, in which no latch is cut open.
use Rattle.std.proofs.Common.{◌≡◌, ◌∙◌, [], length, sym, subst, Some, Ok, Err, inr}
use Rattle.obligations.specs.declared.outcome.verdict.Outcome.{Outcome}
use Rattle.obligations.specs.declared.outcome.verdict.Verdict.{Verdict}
use Rattle.sec_setup.proofs.Uncut.{uncut}
use Rattle.plain_check.specs.declared.under_base.compare_base.error.CompareError.{CompareError}
use Rattle.plain_check.proofs.under_base.compare_base.Forms.{in_reset}
use Rattle.plain_check.specs.under_base.Compared.{ComparedUnder}
use Rattle.job_check.proofs.compare_under.CutOutcomes.{over_shared, can_be_premise}
use Rattle.job_check.proofs.compare_under.ResetOutcomes.{is_refused_from, outcome_is_compared_from_under}
use Rattle.job_check.proofs.compare_under.comparison.compare_from.Goals as goal

pub set_up-requires-clause-exposed : goal.set_up-requires-clause-exposed
set_up-requires-clause-exposed c = c.requires.chosen.cut_open

pub set_up-requires-clause-cut : goal.set_up-requires-clause-cut
set_up-requires-clause-cut c =
    let n = c.args.circuits.now.nets in
    uncut n.left.now n.right.now c.args.exposure.now c.requires.chosen.cut_open (c.requires.chosen.closed c.requires.uncut)

pub compare_reset_under-requires-clause-premise : goal.compare_reset_under-requires-clause-premise
compare_reset_under-requires-clause-premise c =
    let x = c.args.circuits.now in
    let e = c.args.exposure.now in
    let p = c.args.premise.now in
    can_be_premise x.nets.left.now x.nets.right.now x.assumed.now c.args.settings.now e c.in_ok-setup.setup p c.requires.matched.matches c.requires.chosen c.in_ok-setup.ensures.setup c.in_ok-setup.ensures.exposed
    (over_shared x c.requires.matched (length e.names) p c.requires.premise)

pub returns-in-Ok : goal.returns-in-Ok
returns-in-Ok c =
    let x = c.args.circuits.now in
    let e = c.args.exposure.now in
    let p = c.args.premise.now in
    let s = c.in_ok-setup.setup in
    let f = c.in-Ok.findings in
    let none : s.exposed ≡ [] = c.in_ok-setup.ensures.exposed ∙ c.requires.chosen.closed c.requires.uncut in
    let premise = over_shared x c.requires.matched (length e.names) p c.requires.premise in
    subst (λ (o : Outcome). ComparedUnder x.nets.left.now x.nets.right.now x.assumed.now c.args.settings.now (Ok o)) (sym c.outcome_of.ensures)
    (subst (λ (v : Verdict). ComparedUnder x.nets.left.now x.nets.right.now x.assumed.now c.args.settings.now
    (Ok (record { inputs = s.inputs; left_latches = length x.nets.left.now.latches; right_latches = length x.nets.right.now.latches; assumed = Some c.in_ok-name.name; exposed = s.exposed; classes = 0; pairs = f.pairs; through = f.through; verdict = v })))
    (sym c.verdict_of-verdict.ensures)
    (inr (in_reset _ c.args.settings.now.reset c.requires.reset
    (outcome_is_compared_from_under x.nets.left.now x.nets.right.now x.assumed.now c.args.settings.now e s p c.requires.matched.matches c.requires.chosen c.in_ok-setup.ensures.setup c.in_ok-setup.ensures.exposed premise none
    c.requires.uncut c.keeps.ensures.sound c.keeps-2.ensures.sound c.requires.matched.right c.in_ok-name.name (c.in_ok-name.ensures premise.assumed.shape.output premise.assumed.shape.outputs) f c.in-Ok.ensures))))

pub returns-in-Err : goal.returns-in-Err
returns-in-Err c =
    let x = c.args.circuits.now in
    let e = c.args.exposure.now in
    let p = c.args.premise.now in
    let s = c.in_ok-setup.setup in
    let none : s.exposed ≡ [] = c.in_ok-setup.ensures.exposed ∙ c.requires.chosen.closed c.requires.uncut in
    subst (λ (error : CompareError). ComparedUnder x.nets.left.now x.nets.right.now x.assumed.now c.args.settings.now (Err error)) (sym c.refusal_under.ensures)
    (is_refused_from x.nets.left.now x.nets.right.now x.assumed.now c.args.settings.now e s p c.requires.matched.matches c.requires.chosen c.in_ok-setup.ensures.setup c.in_ok-setup.ensures.exposed
    (over_shared x c.requires.matched (length e.names) p c.requires.premise) none c.keeps.ensures.sound c.requires.reset c.in-Err.error c.in-Err.ensures)
