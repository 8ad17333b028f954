-- The parts fit together.
use Rattle.std.proofs.Common.{List, refl, sym, subst}
use Rattle.obligations.specs.declared.obligation.Obligation.{Obligation}
use Rattle.obligations.specs.declared.outcome.verdict.PairResult.{PairResult}
use Rattle.obligations.specs.Asked as graph_level
use Rattle.obligations.specs.Decided.{HaveDecided}
use Rattle.obligations.specs.Verdict.{IsVerdictAt}
use Rattle.assume_queries.specs.assume_sequences.Filled.{bit_of}
use Rattle.event_under.specs.event_under_form.event_under_verdicts.Shown.{IsFoundUnder, IsShownUnder}
use Rattle.event_under.proofs.event_under_form.Questions.{are_queries, found_at}
use Rattle.event_under.proofs.event_under_form.comparison.findings_of.Goals as goal

pub decide_all-requires-clause-asked : goal.decide_all-requires-clause-asked
decide_all-requires-clause-asked c =
    let s = c.args.shows.now in
    subst (λ (us : List Obligation). graph_level.AreAsked s.questions.now.aig us) (sym c.as_slice.ensures.value) (are_queries c.args.events.now c.args.compared.now s.asked.now s.questions.now c.requires.from.questions)

pub show-requires-clause-found : goal.show-requires-clause-found
show-requires-clause-found c =
    let x = c.args.shows.now.questions.now in
    let d = c.in_ok-decided.decided in
    let at = c.verdict_at-at.result in
    let decided : HaveDecided x.aig c.args.conflicts x.asked.items d = subst (λ (us : List Obligation). HaveDecided x.aig c.args.conflicts us d) c.as_slice.ensures.value c.in_ok-decided.ensures in
    let found : IsVerdictAt d.different d.not_shown d.results at = subst (λ (rs : List PairResult). IsVerdictAt d.different d.not_shown rs at) c.as_slice-2.ensures c.verdict_at-at.ensures in
    subst (λ (rs : List PairResult). IsFoundUnder x rs at) (sym c.as_slice-3.ensures) (found_at x c.args.conflicts d decided at found)

pub returns-clause-found : goal.returns-clause-found
returns-clause-found c =
    let s = c.args.shows.now in
    let x = s.questions.now in
    let d = c.in_ok-decided.decided in
    let at = c.verdict_at-at.result in
    record {
      decided = d;
      have = subst (λ (us : List Obligation). HaveDecided x.aig c.args.conflicts us d) c.as_slice.ensures.value c.in_ok-decided.ensures;
      at = at;
      found = subst (λ (rs : List PairResult). IsVerdictAt d.different d.not_shown rs at) c.as_slice-2.ensures c.verdict_at-at.ensures;
      results = refl;
      shown = subst (λ (rs : List PairResult). IsShownUnder c.args.events.now.events c.show.new.events c.args.compared.now s.asked.now x (bit_of s.meeting.now) rs at c.in_ok-verdict.verdict) c.as_slice-3.ensures c.in_ok-verdict.ensures.shown;
    }
