-- The outcome of what is found by the setup, in which no latch is cut open.
use Rattle.std.proofs.Common.{◌≡◌, ◌∙◌, [], length, sym, subst, Ok, None}
use Rattle.obligations.specs.declared.outcome.verdict.Outcome.{Outcome}
use Rattle.plain_asked.specs.declared.findings.Findings.{Findings}
use Rattle.sec_setup.proofs.Uncut.{uncut}
use Rattle.plain_check.specs.under_base.compare_base.Compared.{Compared}
use Rattle.plain_check.proofs.under_base.compare_base.Forms.{in_reset, unbroken}
use Rattle.plain_check.proofs.ResetSetups.{too_large_from, outcome_is_compared_from}
use Rattle.plain_check.proofs.comparison.compare_from.Goals as goal

pub set_up-requires-clause-exposed : goal.set_up-requires-clause-exposed
set_up-requires-clause-exposed c = c.requires.chosen.cut_open

pub set_up-requires-clause-cut : goal.set_up-requires-clause-cut
set_up-requires-clause-cut c =
    let n = c.args.nets.now in
    uncut n.left.now n.right.now c.args.exposure.now c.requires.chosen.cut_open (c.requires.chosen.closed c.requires.uncut)

pub returns-in-Ok : goal.returns-in-Ok
returns-in-Ok c =
    let n = c.args.nets.now in
    let s = c.in_ok-setup.setup in
    let none : s.exposed ≡ [] = c.in_ok-setup.ensures.exposed ∙ c.requires.chosen.closed c.requires.uncut in
    subst (λ (o : Outcome). Compared n.left.now n.right.now c.args.settings.now (Ok o)) (sym c.outcome_of.ensures)
    (subst (λ (f : Findings). Compared n.left.now n.right.now c.args.settings.now
    (Ok (record { inputs = s.inputs; left_latches = length n.left.now.latches; right_latches = length n.right.now.latches; assumed = None; exposed = s.exposed; classes = 0; pairs = f.pairs; through = f.through; verdict = f.verdict }))) (sym c.findings_of.ensures)
    (in_reset _ c.args.settings.now.reset c.requires.reset
    (outcome_is_compared_from n.left.now n.right.now s c.in_ok-setup.ensures.setup none c.args.settings.now c.in-Ok.findings c.in-Ok.ensures c.keeps.ensures.sound c.keeps-2.ensures.sound c.requires.right c.requires.matches
    (unbroken n.left.now n.right.now c.args.settings.now.expose c.requires.uncut c.requires.chosen.broken))))

pub returns-in-Err-TooLarge : goal.returns-in-Err-TooLarge
returns-in-Err-TooLarge c =
    let n = c.args.nets.now in
    let s = c.in_ok-setup.setup in
    let none : s.exposed ≡ [] = c.in_ok-setup.ensures.exposed ∙ c.requires.chosen.closed c.requires.uncut in
    let large = rw c.in-Err-TooLarge.field-0-is at c.in-Err-TooLarge.ensures in (
      c.requires.matches,
      c.requires.chosen.broken,
      in_reset _ c.args.settings.now.reset c.requires.reset (too_large_from n.left.now n.right.now s c.in_ok-setup.ensures.setup none c.args.settings.now.conflicts c.in-Err-TooLarge.side large),
    )
