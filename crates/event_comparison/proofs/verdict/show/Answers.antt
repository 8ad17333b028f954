-- Each verdict is shown by what was made for it.
use Rattle.std.proofs.Common.{◌≡◌, ◌<◌, length, get_or, slice_get, Some, refl, sym, ap, subst}
use Rattle.std.proofs.lemmas.Option.{slice_get-get_or}
use Rattle.obligations.specs.declared.verdict.VerdictAt.{VerdictAt}
use Rattle.obligations.specs.declared.outcome.verdict.PairResult.{PairResult}
use Rattle.sec_base.specs.declared.basics.PairAnswer.TheVariants as answer
use Rattle.witness_report.specs.declared.witness.PairName.{PairName}
use Rattle.event_form.specs.declared.event_findings.verdict.EventVerdict.TheVariants as verdict
use Rattle.event_comparison.specs.Asked.{IsFoundAt}
use Rattle.event_comparison.specs.Shown.{IsShown}
use Rattle.event_comparison.proofs.Showing.{can_show}
use Rattle.event_comparison.proofs.verdict.show.Goals as goal

pub witness_at-requires-clause-shown : goal.witness_at-requires-clause-shown
witness_at-requires-clause-shown c =
    let e = c.args.events.now in
    can_show e c.args.aparts.now c.args.compared.now c.args.asked.now c.keeps.ensures.kept.events c.requires.from answer.Different c.args.results.now c.in-Different.difference (subst (IsFoundAt e.events c.args.asked.now c.args.results.now) c.in-Different.is c.requires.found)

pub show_unshown-requires-clause-differs : goal.show_unshown-requires-clause-differs
show_unshown-requires-clause-differs c = (c.args.results.now, subst (IsFoundAt c.args.events.now.events c.args.asked.now c.args.results.now) c.in-NotShown.is c.requires.found)

pub returns-in-Equal-clause-shown : goal.returns-in-Equal-clause-shown
returns-in-Equal-clause-shown c = subst (λ (x : VerdictAt). IsShown c.args.events.now c.args.compared.now c.args.asked.now c.args.results.now x verdict.Equal) (sym c.in-Equal.is) refl

pub returns-in_ok-witness-in-Different-clause-shown : goal.returns-in_ok-witness-in-Different-clause-shown
returns-in_ok-witness-in-Different-clause-shown c =
    let w = c.in_ok-witness-in-Different.witness in
    subst (λ (x : VerdictAt). IsShown c.args.events.now c.args.compared.now c.args.asked.now c.args.results.now x (verdict.Different w)) (sym c.in-Different.is) (w, refl, c.in_ok-witness-in-Different.ensures)

pub returns-in_ok-name-in-Limit-clause-shown : goal.returns-in_ok-name-in-Limit-clause-shown
returns-in_ok-name-in-Limit-clause-shown c =
    let rs = c.args.results.now in
    let place = c.in-Limit.place in
    let r : PairResult = c.index-results-place.result in
    let inside : place < length rs = subst (IsFoundAt c.args.events.now.events c.args.asked.now rs) c.in-Limit.is c.requires.found in
    let at : slice_get rs place ≡ Some (get_or rs place r) = slice_get-get_or rs place r inside in
    subst (λ (x : VerdictAt). IsShown c.args.events.now c.args.compared.now c.args.asked.now rs x (verdict.Limit c.in_ok-name-in-Limit.name)) (sym c.in-Limit.is)
    (get_or rs place r, at, ap (λ (n : PairName). verdict.Limit n) c.in_ok-name-in-Limit.ensures)

pub returns-in_ok-verdict-in-NotShown-clause-shown : goal.returns-in_ok-verdict-in-NotShown-clause-shown
returns-in_ok-verdict-in-NotShown-clause-shown c =
    subst (λ (x : VerdictAt). IsShown c.show_unshown.new.events c.args.compared.now c.args.asked.now c.args.results.now x c.in_ok-verdict-in-NotShown.verdict) (sym c.in-NotShown.is) c.in_ok-verdict-in-NotShown.ensures.shown
