-- Each verdict is shown by what was made for it.
use Rattle.std.proofs.Common.{◌≡◌, ◌<◌, length, get_or, slice_get, Some, refl, sym, ap, subst}
use Rattle.std.proofs.lemmas.Option.{slice_get-get_or}
use Rattle.obligations.specs.declared.verdict.VerdictAt.{VerdictAt}
use Rattle.obligations.specs.declared.outcome.verdict.PairResult.{PairResult}
use Rattle.sec_base.specs.declared.basics.PairAnswer.TheVariants as answer
use Rattle.witness_report.specs.declared.witness.PairName.{PairName}
use Rattle.assume_queries.specs.assume_sequences.Filled.{bit_of}
use Rattle.event_form.specs.declared.event_findings.verdict.EventVerdict.TheVariants as verdict
use Rattle.event_under.specs.event_under_form.event_under_verdicts.Shown.{IsFoundUnder, IsShownUnder}
use Rattle.event_under.proofs.event_under_form.verdict.show.Goals as goal

pub sequence_at-requires-clause-differs : goal.sequence_at-requires-clause-differs
sequence_at-requires-clause-differs c = (answer.Different, c.args.results.now, subst (IsFoundUnder c.args.shows.now.questions.now c.args.results.now) c.in-Different.is c.requires.found)

pub show_unshown-requires-clause-differs : goal.show_unshown-requires-clause-differs
show_unshown-requires-clause-differs c = (c.args.results.now, subst (IsFoundUnder c.args.shows.now.questions.now c.args.results.now) c.in-NotShown.is c.requires.found)

pub returns-in-Equal-clause-shown : goal.returns-in-Equal-clause-shown
returns-in-Equal-clause-shown c =
    let s = c.args.shows.now in
    subst (λ (x : VerdictAt). IsShownUnder c.args.events.now.events c.args.events.now c.args.compared.now s.asked.now s.questions.now (bit_of s.meeting.now) c.args.results.now x verdict.Equal) (sym c.in-Equal.is) refl

pub returns-in_ok-witness-in-Different-clause-shown : goal.returns-in_ok-witness-in-Different-clause-shown
returns-in_ok-witness-in-Different-clause-shown c =
    let s = c.args.shows.now in
    let w = c.in_ok-witness-in-Different.witness in
    subst (λ (x : VerdictAt). IsShownUnder c.args.events.now.events c.args.events.now c.args.compared.now s.asked.now s.questions.now (bit_of s.meeting.now) c.args.results.now x (verdict.Different w)) (sym c.in-Different.is) (w, refl, c.in_ok-witness-in-Different.ensures)

pub returns-in_ok-name-in-Limit-clause-shown : goal.returns-in_ok-name-in-Limit-clause-shown
returns-in_ok-name-in-Limit-clause-shown c =
    let s = c.args.shows.now in
    let rs = c.args.results.now in
    let place = c.in-Limit.place in
    let r : PairResult = c.index-results-place.result in
    let inside : place < length rs = subst (IsFoundUnder s.questions.now rs) c.in-Limit.is c.requires.found in
    let at : slice_get rs place ≡ Some (get_or rs place r) = slice_get-get_or rs place r inside in
    subst (λ (x : VerdictAt). IsShownUnder c.args.events.now.events c.args.events.now c.args.compared.now s.asked.now s.questions.now (bit_of s.meeting.now) rs x (verdict.Limit c.in_ok-name-in-Limit.name)) (sym c.in-Limit.is)
    (get_or rs place r, at, ap (λ (n : PairName). verdict.Limit n) c.in_ok-name-in-Limit.ensures)

pub returns-in_ok-verdict-in-NotShown-clause-shown : goal.returns-in_ok-verdict-in-NotShown-clause-shown
returns-in_ok-verdict-in-NotShown-clause-shown c =
    let s = c.args.shows.now in
    subst (λ (x : VerdictAt). IsShownUnder c.args.events.now.events c.show_unshown.new.events c.args.compared.now s.asked.now s.questions.now (bit_of s.meeting.now) c.args.results.now x c.in_ok-verdict-in-NotShown.verdict) (sym c.in-NotShown.is) c.in_ok-verdict-in-NotShown.ensures.shown
