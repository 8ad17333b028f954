-- The parts fit together.
use Rattle.std.proofs.Common.{◌∙◌, List, sym, ap, subst}
use Rattle.obligations.specs.declared.outcome.verdict.PairResult.{PairResult}
use Rattle.obligations.specs.Decided.{HaveDecided}
use Rattle.obligations.specs.Verdict.{IsVerdictAt}
use Rattle.outcome_fits.specs.Outcome.{greatest_size}
use Rattle.plain_asked.proofs.Sound.{AreSound}
use Rattle.plain_check.specs.asked_under.plain_asked_under.Shown.{CanBeShownUnder, IsShownUnder}
use Rattle.plain_check.proofs.asked_under.plain_asked_under.Verdicts.{are_queries, each_fits, can_be_shown, verdict_fits}
use Rattle.plain_check.proofs.asked_under.plain_asked_under.comparison.findings_under.Goals as goal

pub decide_all-requires-clause-asked : goal.decide_all-requires-clause-asked
decide_all-requires-clause-asked c =
    let s = c.args.setup.now in
    let f = c.args.functions.now in
    let a = c.requires.asked in
    let sound : AreSound s f = record { setup = c.requires.setup; left = c.keeps.ensures.sound; right = c.keeps-2.ensures.sound; graph = c.keeps-3.ensures.graph; values = c.keeps-3.ensures.values; distinct = c.keeps-4.ensures } in
    are_queries a.0 s f sound c.args.asked.now c.args.under.now c.args.meeting.now a.1

pub show_under-requires-clause-shown : goal.show_under-requires-clause-shown
show_under-requires-clause-shown c =
    let s = c.args.setup.now in
    let f = c.args.functions.now in
    let d = c.in_ok-decided.decided in
    let at = c.verdict_at-at.result in
    let a = c.requires.asked in
    let sound : AreSound s f = record { setup = c.requires.setup; left = c.keeps.ensures.sound; right = c.keeps-2.ensures.sound; graph = c.keeps-3.ensures.graph; values = c.keeps-3.ensures.values; distinct = c.keeps-4.ensures } in
    let verdict : IsVerdictAt d.different d.not_shown d.results at = subst (λ (rs : List PairResult). IsVerdictAt d.different d.not_shown rs at) c.as_slice.ensures c.verdict_at-at.ensures in
    subst (λ (rs : List PairResult). CanBeShownUnder f s.columns c.args.asked.now c.args.under.now rs at) (sym c.as_slice-2.ensures)
    (can_be_shown a.0 s f sound c.args.asked.now c.args.under.now c.args.meeting.now a.1 c.args.conflicts d c.in_ok-decided.ensures at verdict)

pub show_under-requires-clause-distinct : goal.show_under-requires-clause-distinct
show_under-requires-clause-distinct c = c.requires.setup.distinct

pub returns : goal.returns
returns c = λ a are.
    let s = c.args.setup.now in
    let f = c.args.functions.now in
    let d = c.in_ok-decided.decided in
    let at = c.verdict_at-at.result in
    let v = c.in_ok-verdict.verdict in
    let sound : AreSound s f = record { setup = c.requires.setup; left = c.keeps.ensures.sound; right = c.keeps-2.ensures.sound; graph = c.keeps-3.ensures.graph; values = c.keeps-3.ensures.values; distinct = c.keeps-4.ensures } in
    let decided : HaveDecided f.aig c.args.conflicts c.args.under.now d = c.in_ok-decided.ensures in
    let verdict : IsVerdictAt d.different d.not_shown d.results at = subst (λ (rs : List PairResult). IsVerdictAt d.different d.not_shown rs at) c.as_slice.ensures c.verdict_at-at.ensures in
    let shown : IsShownUnder f s.columns c.args.asked.now c.args.under.now c.args.meeting.now d.results at v =
    subst (λ (rs : List PairResult). IsShownUnder f s.columns c.args.asked.now c.args.under.now c.args.meeting.now rs at v) c.as_slice-2.ensures c.in_ok-verdict.ensures in
    record {
      pairs_fit = each_fits a s f sound c.args.asked.now c.args.under.now c.args.meeting.now are c.args.conflicts d.results decided.results;
      through = c.greatest_size-through.ensures ∙ ap greatest_size c.as_slice-3.ensures;
      verdict_is = verdict_fits a s f sound c.args.asked.now c.args.under.now c.args.meeting.now are c.args.conflicts d decided at v verdict shown;
    }
