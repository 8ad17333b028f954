-- The parts fit together.
use Rattle.std.proofs.Common.{◌∙◌, List, sym, ap, subst}
use Rattle.obligations.specs.declared.outcome.verdict.PairResult.{PairResult}
use Rattle.obligations.specs.declared.obligation.Obligation.{Obligation}
use Rattle.obligations.specs.Asked as graph_level
use Rattle.obligations.specs.Decided.{HaveDecided}
use Rattle.obligations.specs.Verdict.{IsVerdictAt}
use Rattle.plain_asked.specs.outcome_fits.Outcome.{greatest_size}
use Rattle.plain_check.specs.plain_form.Shown.{CanBeShown, IsShown}
use Rattle.plain_asked.proofs.Sound.{AreSound, own_pairs}
use Rattle.plain_check.proofs.plain_form.FirstPairs.{pairs_fit}
use Rattle.plain_check.proofs.plain_form.Outcomes.{verdict_fits, can_be_shown, are_asked}
use Rattle.plain_check.proofs.plain_form.comparison.findings_of.Goals as goal

pub decide_all-requires-clause-asked : goal.decide_all-requires-clause-asked
decide_all-requires-clause-asked c =
    let s = c.args.setup.now in
    let f = c.args.functions.now.functions in
    let sound : AreSound s f = record { setup = c.requires.setup; left = c.keeps.ensures.sound; right = c.keeps-2.ensures.sound; graph = c.keeps-3.ensures.graph; values = c.keeps-3.ensures.values; distinct = c.keeps-4.ensures } in
    subst (graph_level.AreAsked f.aig) (sym c.as_slice.ensures.value) (are_asked s f sound s.pairs c.in_ok-asked.asked.items c.in_ok-asked.ensures)

pub show-requires : goal.show-requires
show-requires c =
    let s = c.args.setup.now in
    let f = c.args.functions.now.functions in
    let asked = c.in_ok-asked.asked.items in
    let d = c.in_ok-decided.decided in
    let at = c.verdict_at-at.result in
    let sound : AreSound s f = record { setup = c.requires.setup; left = c.keeps.ensures.sound; right = c.keeps-2.ensures.sound; graph = c.keeps-3.ensures.graph; values = c.keeps-3.ensures.values; distinct = c.keeps-4.ensures } in
    let decided : HaveDecided f.aig c.args.conflicts asked d = subst (λ (os : List Obligation). HaveDecided f.aig c.args.conflicts os d) c.as_slice.ensures.value c.in_ok-decided.ensures in
    let verdict : IsVerdictAt d.different d.not_shown d.results at = subst (λ (rs : List PairResult). IsVerdictAt d.different d.not_shown rs at) c.as_slice-2.ensures c.verdict_at-at.ensures in
    record {
      shown =
          subst (λ (os : List Obligation). CanBeShown f s.columns os c.as_slice-4.result.now at) (sym c.as_slice-3.ensures.value)
          (subst (λ (rs : List PairResult). CanBeShown f s.columns asked rs at) (sym c.as_slice-4.ensures) (can_be_shown s f sound s.pairs asked c.args.conflicts d at (own_pairs s c.requires.setup) c.in_ok-asked.ensures decided verdict));
      distinct = c.requires.setup.distinct;
    }

pub returns : goal.returns
returns c =
    let s = c.args.setup.now in
    let f = c.args.functions.now.functions in
    let asked = c.in_ok-asked.asked.items in
    let d = c.in_ok-decided.decided in
    let at = c.verdict_at-at.result in
    let v = c.in_ok-verdict.verdict in
    let sound : AreSound s f = record { setup = c.requires.setup; left = c.keeps.ensures.sound; right = c.keeps-2.ensures.sound; graph = c.keeps-3.ensures.graph; values = c.keeps-3.ensures.values; distinct = c.keeps-4.ensures } in
    let decided : HaveDecided f.aig c.args.conflicts asked d = subst (λ (os : List Obligation). HaveDecided f.aig c.args.conflicts os d) c.as_slice.ensures.value c.in_ok-decided.ensures in
    let verdict : IsVerdictAt d.different d.not_shown d.results at = subst (λ (rs : List PairResult). IsVerdictAt d.different d.not_shown rs at) c.as_slice-2.ensures c.verdict_at-at.ensures in
    let shown : IsShown f s.columns asked d.results at v =
    subst (λ (rs : List PairResult). IsShown f s.columns asked rs at v) c.as_slice-4.ensures (subst (λ (os : List Obligation). IsShown f s.columns os c.as_slice-4.result.now at v) c.as_slice-3.ensures.value c.in_ok-verdict.ensures) in
    record {
      pairs_fit = pairs_fit s f sound c.args.conflicts s.pairs asked d.results c.in_ok-asked.ensures decided.results;
      through = c.greatest_size-through.ensures ∙ ap greatest_size c.as_slice-5.ensures;
      verdict_is = verdict_fits s f sound s.pairs asked c.args.conflicts d at v (own_pairs s c.requires.setup) c.in_ok-asked.ensures decided verdict shown;
    }
