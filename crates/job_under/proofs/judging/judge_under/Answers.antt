-- What is judged where something was found, and where the assumption's own query met the limit.
use Rattle.std.proofs.Common.{◌≡◌, ℕ, List, subst, inl, inr}
use Rattle.cycle_under.specs.declared.found.SearchUnder.{SearchUnder}
use Rattle.cycle_under.specs.Searches.{IsMadeUnder}
use Rattle.job_under.specs.Report.{undecided_text}
use Rattle.job_under.proofs.Finds.{judged_by}
use Rattle.job_under.proofs.judging.judge_under.Goals as goal

pub returns-in_ok-judged-in-Searched : goal.returns-in_ok-judged-in-Searched
returns-in_ok-judged-in-Searched c =
    let made = subst (λ (s : SearchUnder). IsMadeUnder c.args.a.now c.args.b.now c.args.c.now c.args.cycles c.args.conflicts s) c.in-Searched.is c.in_ok-name.ensures in
    let j = c.in_ok-judged-in-Searched.judged in
    let says = c.in_ok-judged-in-Searched.ensures in
    inl (judged_by c.args.a.now c.args.b.now c.args.c.now c.args.cycles c.args.conflicts c.in-Searched.searched c.in-Searched.name j.judgement j.proofs j.text c.requires.right made.0 made.1 says.judgement says.proofs says.text)

pub returns-in_ok-judged-in-Undecided : goal.returns-in_ok-judged-in-Undecided
returns-in_ok-judged-in-Undecided c =
    let a = c.args.a.now in
    let b = c.args.b.now in
    let conflicts = c.args.conflicts in
    let made = subst (λ (s : SearchUnder). IsMadeUnder a b c.args.c.now c.args.cycles conflicts s) c.in-Undecided.is c.in_ok-name.ensures in
    let j = c.in_ok-judged-in-Undecided.judged in
    let says = c.in_ok-judged-in-Undecided.ensures in
    inr (record {
      matches = made.0;
      proof = c.in-Undecided.proof;
      is = made.1.0;
      judgement_is = says.judgement;
      proofs_are = says.proofs;
      text_is = subst (λ (name : List ℕ). j.text ≡ undecided_text a b name conflicts) made.1.1 says.text;
    })
