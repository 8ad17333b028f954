-- Each verdict is shown by what was made for it.
use Rattle.std.proofs.Common.{◌≡◌, ◌<◌, length, get_or, slice_get, Some, refl, sym, ap, subst}
use Rattle.std.proofs.lemmas.Option.{slice_get-get_or}
use Rattle.witness_report.specs.declared.witness.PairName.{PairName}
use Rattle.obligations.specs.declared.outcome.verdict.PairResult.{PairResult}
use Rattle.obligations.specs.declared.verdict.VerdictAt.{VerdictAt}
use Rattle.reset_form.specs.declared.reset_asked.findings.ResetVerdict.TheVariants as verdict
use Rattle.cycle_search.specs.Shown.{CanBeShownIn, IsShownIn}
use Rattle.cycle_search.proofs.shown.show.Goals as goal

pub returns-in_ok-witness-in-Different : goal.returns-in_ok-witness-in-Different
returns-in_ok-witness-in-Different c =
    let w = c.in_ok-witness-in-Different.witness in
    subst (λ (x : VerdictAt). IsShownIn c.args.setup.now c.args.bases c.args.functions.now c.args.asked.now c.args.results.now c.args.cycle x (verdict.Different w)) (sym c.in-Different.is) (w, refl, c.in_ok-witness-in-Different.ensures)

pub returns-in_ok-name-in-Limit : goal.returns-in_ok-name-in-Limit
returns-in_ok-name-in-Limit c =
    let rs = c.args.results.now in
    let place = c.in-Limit.place in
    let r : PairResult = c.index-results-place.result in
    let inside : place < length rs = subst (CanBeShownIn c.args.functions.now c.args.asked.now rs) c.in-Limit.is c.requires.shown in
    let at : slice_get rs place ≡ Some (get_or rs place r) = slice_get-get_or rs place r inside in
    subst (λ (x : VerdictAt). IsShownIn c.args.setup.now c.args.bases c.args.functions.now c.args.asked.now rs c.args.cycle x (verdict.Limit c.in_ok-name-in-Limit.name)) (sym c.in-Limit.is)
    (get_or rs place r, at, ap (λ (n : PairName). verdict.Limit n) c.in_ok-name-in-Limit.ensures)
