-- The outcome of what is found by the setup.
use Rattle.std.proofs.Common.{sym, subst, Ok}
use Rattle.obligations.specs.declared.outcome.verdict.Outcome.{Outcome}
use Rattle.plain_check.specs.under_base.compare_base.Compared.{Compared}
use Rattle.plain_check.proofs.under_base.compare_base.Forms.{in_always}
use Rattle.plain_check.proofs.Outcomes.{outcome_is_compared, too_large}
use Rattle.plain_check.proofs.comparison.compare_nets.Goals as goal

pub set_up-requires-clause-exposed : goal.set_up-requires-clause-exposed
set_up-requires-clause-exposed c = c.requires.chosen.cut_open

pub returns-in-Ok : goal.returns-in-Ok
returns-in-Ok c =
    subst (λ (o : Outcome). Compared c.args.a.now c.args.b.now c.args.settings.now (Ok o)) (sym c.outcome_of.ensures)
    (in_always _ c.args.settings.now.reset c.requires.settling
    (outcome_is_compared c.args.a.now c.args.b.now c.args.settings.now c.args.exposure.now c.in_ok-setup.setup c.keeps.ensures.sound c.keeps-2.ensures.sound c.requires.left c.requires.right c.requires.matches
    c.requires.chosen c.in_ok-setup.ensures.setup c.in_ok-setup.ensures.exposed c.in-Ok.findings c.in-Ok.ensures))

pub returns-in-Err-TooLarge : goal.returns-in-Err-TooLarge
returns-in-Err-TooLarge c =
    let large = rw c.in-Err-TooLarge.field-0-is at c.in-Err-TooLarge.ensures in
    too_large c.args.a.now c.args.b.now c.args.settings.now c.args.exposure.now c.in_ok-setup.setup c.requires.matches c.requires.chosen c.in_ok-setup.ensures.setup c.in_ok-setup.ensures.exposed c.requires.settling c.in-Err-TooLarge.side large
