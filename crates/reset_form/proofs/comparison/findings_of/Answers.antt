-- The parts fit together.
use Rattle.std.proofs.Common.{◌∙◌, List, sym, ap, subst}
use Rattle.obligations.specs.declared.outcome.verdict.PairResult.{PairResult}
use Rattle.obligations.specs.declared.obligation.Obligation.{Obligation}
use Rattle.obligations.specs.Asked as graph_level
use Rattle.obligations.specs.Decided.{HaveDecided}
use Rattle.obligations.specs.Verdict.{IsVerdictAt}
use Rattle.outcome_fits.specs.ResetOutcome.{greatest_size}
use Rattle.reset_form.specs.Shown.{CanBeShown, IsShown}
use Rattle.reset_form.proofs.FirstPairs.{pairs_fit, queries_are}
use Rattle.reset_form.proofs.reset_functions.OwnPairs.{own_pairs}
use Rattle.reset_form.proofs.reset_asked.Sound.{AreSound}
use Rattle.reset_form.proofs.Outcomes.{verdict_fits, can_be_shown}
use Rattle.reset_form.proofs.comparison.findings_of.Goals as goal

pub decide_all-requires-clause-asked : goal.decide_all-requires-clause-asked
decide_all-requires-clause-asked c =
    let s = c.args.setup.now in
    let b = c.args.bases in
    let f = c.args.functions.now in
    let sound : AreSound s b f = record { setup = c.requires.setup; bases = c.requires.bases; functions = record { graph = c.keeps-3.ensures.graph; values = c.keeps-3.ensures.values; distinct = c.keeps-4.ensures } } in
    subst (graph_level.AreAsked f.aig) (sym c.as_slice.ensures.value) (queries_are s b f sound s.pairs c.in_ok-asked.asked.items c.in_ok-asked.ensures)

pub show-requires : goal.show-requires
show-requires c =
    let s = c.args.setup.now in
    let b = c.args.bases in
    let f = c.args.functions.now in
    let asked = c.in_ok-asked.asked.items in
    let d = c.in_ok-decided.decided in
    let at = c.verdict_at-at.result in
    let sound : AreSound s b f = record { setup = c.requires.setup; bases = c.requires.bases; functions = record { graph = c.keeps-3.ensures.graph; values = c.keeps-3.ensures.values; distinct = c.keeps-4.ensures } } in
    let decided : HaveDecided f.aig c.args.conflicts asked d = subst (λ (os : List Obligation). HaveDecided f.aig c.args.conflicts os d) c.as_slice.ensures.value c.in_ok-decided.ensures in
    let verdict : IsVerdictAt d.different d.not_shown d.results at = subst (λ (rs : List PairResult). IsVerdictAt d.different d.not_shown rs at) c.as_slice-2.ensures c.verdict_at-at.ensures in
    record {
      shown =
          subst (λ (os : List Obligation). CanBeShown f os c.as_slice-4.result.now at) (sym c.as_slice-3.ensures.value)
          (subst (λ (rs : List PairResult). CanBeShown f asked rs at) (sym c.as_slice-4.ensures) (can_be_shown s b f sound s.pairs asked c.args.conflicts d (own_pairs s c.requires.setup) c.in_ok-asked.ensures decided at verdict));
      distinct = c.requires.setup.distinct;
    }

pub returns : goal.returns
returns c =
    let s = c.args.setup.now in
    let b = c.args.bases in
    let f = c.args.functions.now in
    let asked = c.in_ok-asked.asked.items in
    let d = c.in_ok-decided.decided in
    let at = c.verdict_at-at.result in
    let v = c.in_ok-verdict.verdict in
    let sound : AreSound s b f = record { setup = c.requires.setup; bases = c.requires.bases; functions = record { graph = c.keeps-3.ensures.graph; values = c.keeps-3.ensures.values; distinct = c.keeps-4.ensures } } in
    let decided : HaveDecided f.aig c.args.conflicts asked d = subst (λ (os : List Obligation). HaveDecided f.aig c.args.conflicts os d) c.as_slice.ensures.value c.in_ok-decided.ensures in
    let verdict : IsVerdictAt d.different d.not_shown d.results at = subst (λ (rs : List PairResult). IsVerdictAt d.different d.not_shown rs at) c.as_slice-2.ensures c.verdict_at-at.ensures in
    let shown : IsShown s b f asked d.results at v =
    subst (λ (rs : List PairResult). IsShown s b f asked rs at v) c.as_slice-4.ensures (subst (λ (os : List Obligation). IsShown s b f os c.as_slice-4.result.now at v) c.as_slice-3.ensures.value c.in_ok-verdict.ensures) in
    record {
      pairs_fit = pairs_fit s b f sound c.args.conflicts s.pairs asked d.results c.in_ok-asked.ensures decided.results;
      through = c.greatest_size-through.ensures ∙ ap greatest_size c.as_slice-5.ensures;
      verdict_is = verdict_fits s b f sound s.pairs asked c.args.conflicts d (own_pairs s c.requires.setup) c.in_ok-asked.ensures decided at v verdict shown;
    }
