-- The parts fit together.
use Rattle.std.proofs.Common.{◌∙◌, List, length, sym, ap, subst}
use Rattle.obligations.specs.declared.outcome.verdict.PairResult.{PairResult}
use Rattle.obligations.specs.declared.obligation.Obligation.{Obligation}
use Rattle.obligations.specs.Asked as graph_level
use Rattle.obligations.specs.Decided.{HaveDecided}
use Rattle.obligations.specs.Verdict.{IsVerdictAt}
use Rattle.sec_setup.specs.declared.ports.pairs.SignalPair.{SignalPair}
use Rattle.reset_form.proofs.reset_asked.PairCycles.{AreSoundFunctions}
use Rattle.cycle_search.specs.Asked.{AreAskedIn}
use Rattle.cycle_search.specs.Shown.{CanBeShownIn, IsShownIn}
use Rattle.cycle_search.proofs.PairsIn.{left_in_order, right_in_order, queries_are, pairs_fit, can_be_shown, verdict_in}
use Rattle.cycle_search.proofs.cycle.decide_cycle.Goals as goal

pub ask-requires : goal.ask-requires
ask-requires c =
    let s = c.args.setup.now in
    let b = c.args.bases in
    let f = c.args.unfolded.now.functions in
    let left = c.args.left.now in
    let right = c.args.right.now in
    let h = c.requires.functions in
    record {
      merged = c.requires.merged;
      left_each = h.left_each ∙ ap length (sym c.as_slice.ensures);
      right_each = h.right_each ∙ ap length (sym c.as_slice.ensures);
      left = left_in_order s b f c.args.cycle left right h;
      right = right_in_order s b f c.args.cycle left right h;
    }

pub decide_near-requires-clause-asked : goal.decide_near-requires-clause-asked
decide_near-requires-clause-asked c =
    let s = c.args.setup.now in
    let b = c.args.bases in
    let f = c.args.unfolded.now.functions in
    let asked = c.in_ok-asked.asked.items in
    let sound : AreSoundFunctions f = record { graph = c.keeps.ensures.graph; values = c.keeps.ensures.values; distinct = c.keeps-2.ensures } in
    let are : AreAskedIn f.aig f.places c.args.cycle s.pairs c.args.left.now c.args.right.now asked = subst (λ (ps : List SignalPair). AreAskedIn f.aig f.places c.args.cycle ps c.args.left.now c.args.right.now asked) c.as_slice.ensures c.in_ok-asked.ensures in
    subst (graph_level.AreAsked f.aig) (sym c.as_slice-2.ensures.value) (queries_are s b f c.requires.setup c.requires.bases sound c.args.cycle c.args.left.now c.args.right.now c.requires.functions asked are)

pub show-requires : goal.show-requires
show-requires c =
    let s = c.args.setup.now in
    let b = c.args.bases in
    let f = c.args.unfolded.now.functions in
    let asked = c.in_ok-asked.asked.items in
    let d = c.in_ok-decided.decided in
    let at = c.verdict_at-at.result in
    let sound : AreSoundFunctions f = record { graph = c.keeps.ensures.graph; values = c.keeps.ensures.values; distinct = c.keeps-2.ensures } in
    let are : AreAskedIn f.aig f.places c.args.cycle s.pairs c.args.left.now c.args.right.now asked = subst (λ (ps : List SignalPair). AreAskedIn f.aig f.places c.args.cycle ps c.args.left.now c.args.right.now asked) c.as_slice.ensures c.in_ok-asked.ensures in
    let decided : HaveDecided f.aig c.args.conflicts asked d = subst (λ (os : List Obligation). HaveDecided f.aig c.args.conflicts os d) c.as_slice-2.ensures.value c.in_ok-decided.ensures in
    let verdict : IsVerdictAt d.different d.not_shown d.results at = subst (λ (rs : List PairResult). IsVerdictAt d.different d.not_shown rs at) c.as_slice-3.ensures c.verdict_at-at.ensures in
    record {
      shown =
          subst (λ (os : List Obligation). CanBeShownIn f os c.as_slice-5.result.now at) (sym c.as_slice-4.ensures.value)
          (subst (λ (rs : List PairResult). CanBeShownIn f asked rs at) (sym c.as_slice-5.ensures)
          (can_be_shown s b f c.requires.setup c.requires.bases sound c.args.cycle c.args.left.now c.args.right.now c.requires.functions asked are c.args.conflicts d decided at verdict));
      distinct = c.requires.setup.distinct;
    }

pub returns : goal.returns
returns c =
    let s = c.args.setup.now in
    let b = c.args.bases in
    let f = c.args.unfolded.now.functions in
    let asked = c.in_ok-asked.asked.items in
    let d = c.in_ok-decided.decided in
    let at = c.verdict_at-at.result in
    let v = c.in_ok-verdict.verdict in
    let sound : AreSoundFunctions f = record { graph = c.keeps.ensures.graph; values = c.keeps.ensures.values; distinct = c.keeps-2.ensures } in
    let are : AreAskedIn f.aig f.places c.args.cycle s.pairs c.args.left.now c.args.right.now asked = subst (λ (ps : List SignalPair). AreAskedIn f.aig f.places c.args.cycle ps c.args.left.now c.args.right.now asked) c.as_slice.ensures c.in_ok-asked.ensures in
    let decided : HaveDecided f.aig c.args.conflicts asked d = subst (λ (os : List Obligation). HaveDecided f.aig c.args.conflicts os d) c.as_slice-2.ensures.value c.in_ok-decided.ensures in
    let verdict : IsVerdictAt d.different d.not_shown d.results at = subst (λ (rs : List PairResult). IsVerdictAt d.different d.not_shown rs at) c.as_slice-3.ensures c.verdict_at-at.ensures in
    let shown : IsShownIn s b f asked d.results c.args.cycle at v =
    subst (λ (rs : List PairResult). IsShownIn s b f asked rs c.args.cycle at v) c.as_slice-5.ensures
    (subst (λ (os : List Obligation). IsShownIn s b f os c.as_slice-5.result.now c.args.cycle at v) c.as_slice-4.ensures.value c.in_ok-verdict.ensures) in
    record {
      pairs_fit = pairs_fit s b f c.requires.setup c.requires.bases sound c.args.cycle c.args.left.now c.args.right.now c.requires.functions asked are c.args.conflicts d.results decided.results;
      verdict_is = verdict_in s b f c.requires.setup c.requires.bases sound c.args.cycle c.args.left.now c.args.right.now c.requires.functions asked are c.args.conflicts d decided at v verdict shown;
    }
