-- The parts fit together.
use Rattle.std.proofs.Common.{◌≡◌, ◌∙◌, List, length, sym, ap, subst}
use Rattle.std.specs.List.{All}
use Rattle.cbf_unfold.specs.declared.unfold_places.signal_function.Unfolded.{Unfolded}
use Rattle.cbf_unfold.specs.shift_variables.cycle_variables.Cycles.{AreInCycles}
use Rattle.obligations.specs.declared.outcome.verdict.PairResult.{PairResult}
use Rattle.obligations.specs.declared.obligation.Obligation.{Obligation}
use Rattle.obligations.specs.Asked as graph_level
use Rattle.obligations.specs.Decided.{HaveDecided}
use Rattle.obligations.specs.Verdict.{IsVerdictAt}
use Rattle.sec_setup.specs.declared.ports.pairs.SignalPair.{SignalPair}
use Rattle.reset_form.proofs.reset_asked.PairCycles.{AreSoundFunctions}
use Rattle.cycle_search.specs.Shown.{CanBeShownIn, IsShownIn}
use Rattle.cycle_search.proofs.PairsIn.{left_in_order, right_in_order}
use Rattle.cycle_under.specs.Asked.{AreAskedUnder}
use Rattle.cycle_under.proofs.Pairs.{queries_are, pairs_fit, can_be_shown, verdict_in}
use Rattle.cycle_under.proofs.cycle.decide_cycle.Goals as goal

pub ask-requires : goal.ask-requires
ask-requires c =
    let s = c.args.setup.now in
    let b = c.args.bases in
    let f = c.args.unfolded.now.functions in
    let left = c.args.sides.now.left.items in
    let right = c.args.sides.now.right.items in
    let h = c.requires.functions in
    record {
      left_each = ap length c.as_slice-left.ensures.value ∙ (h.left_each ∙ ap length (sym c.as_slice-pairs.ensures));
      right_each = ap length c.as_slice-right.ensures.value ∙ (h.right_each ∙ ap length (sym c.as_slice-pairs.ensures));
      left = subst (λ (us : List Unfolded). All (λ (u : Unfolded). AreInCycles f.places u.vars) us) (sym c.as_slice-left.ensures.value) (left_in_order s b f c.args.cycle left right h);
      right = subst (λ (us : List Unfolded). All (λ (u : Unfolded). AreInCycles f.places u.vars) us) (sym c.as_slice-right.ensures.value) (right_in_order s b f c.args.cycle left right h);
      care = c.requires.cared.1.in_order;
    }

pub decide_all-requires-clause-asked : goal.decide_all-requires-clause-asked
decide_all-requires-clause-asked c =
    let s = c.args.setup.now in
    let b = c.args.bases in
    let u = c.args.unfolded.now in
    let f = u.functions in
    let left = c.args.sides.now.left.items in
    let right = c.args.sides.now.right.items in
    let asked = c.in_ok-asked.asked.items in
    let sound : AreSoundFunctions f = record { graph = c.keeps.ensures.graph; values = c.keeps.ensures.values; distinct = c.keeps-2.ensures } in
    let are : AreAskedUnder f.places u.care c.args.cycle s.pairs left right asked =
    subst (λ (ps : List SignalPair). AreAskedUnder f.places u.care c.args.cycle ps left right asked) c.as_slice-pairs.ensures
    (subst (λ (ls : List Unfolded). AreAskedUnder f.places u.care c.args.cycle c.as_slice-pairs.result.now ls right asked) c.as_slice-left.ensures.value
    (subst (λ (rs : List Unfolded). AreAskedUnder f.places u.care c.args.cycle c.as_slice-pairs.result.now c.as_slice-left.result.now rs asked) c.as_slice-right.ensures.value c.in_ok-asked.ensures)) in
    subst (graph_level.AreAsked f.aig) (sym c.as_slice.ensures.value)
    (queries_are c.requires.cared.0 s b f c.requires.setup c.requires.bases sound c.args.cycle left right c.requires.functions u.care c.requires.cared.1 asked are)

pub show-requires : goal.show-requires
show-requires c =
    let s = c.args.setup.now in
    let b = c.args.bases in
    let u = c.args.unfolded.now in
    let f = u.functions in
    let left = c.args.sides.now.left.items in
    let right = c.args.sides.now.right.items in
    let asked = c.in_ok-asked.asked.items in
    let d = c.in_ok-decided.decided in
    let at = c.verdict_at-at.result in
    let sound : AreSoundFunctions f = record { graph = c.keeps.ensures.graph; values = c.keeps.ensures.values; distinct = c.keeps-2.ensures } in
    let are : AreAskedUnder f.places u.care c.args.cycle s.pairs left right asked =
    subst (λ (ps : List SignalPair). AreAskedUnder f.places u.care c.args.cycle ps left right asked) c.as_slice-pairs.ensures
    (subst (λ (ls : List Unfolded). AreAskedUnder f.places u.care c.args.cycle c.as_slice-pairs.result.now ls right asked) c.as_slice-left.ensures.value
    (subst (λ (rs : List Unfolded). AreAskedUnder f.places u.care c.args.cycle c.as_slice-pairs.result.now c.as_slice-left.result.now rs asked) c.as_slice-right.ensures.value c.in_ok-asked.ensures)) in
    let decided : HaveDecided f.aig c.args.conflicts asked d = subst (λ (os : List Obligation). HaveDecided f.aig c.args.conflicts os d) c.as_slice.ensures.value c.in_ok-decided.ensures in
    let verdict : IsVerdictAt d.different d.not_shown d.results at = subst (λ (rs : List PairResult). IsVerdictAt d.different d.not_shown rs at) c.as_slice-2.ensures c.verdict_at-at.ensures in
    record {
      shown =
          subst (λ (os : List Obligation). CanBeShownIn f os c.as_slice-4.result.now at) (sym c.as_slice-3.ensures.value)
          (subst (λ (rs : List PairResult). CanBeShownIn f asked rs at) (sym c.as_slice-4.ensures)
          (can_be_shown c.requires.cared.0 s b f c.requires.setup c.requires.bases sound c.args.cycle left right c.requires.functions u.care c.requires.cared.1 asked are c.args.conflicts d decided at verdict));
      distinct = c.requires.setup.distinct;
    }

pub returns : goal.returns
returns c =
    λ assumption cared.
    let s = c.args.setup.now in
    let b = c.args.bases in
    let u = c.args.unfolded.now in
    let f = u.functions in
    let left = c.args.sides.now.left.items in
    let right = c.args.sides.now.right.items in
    let asked = c.in_ok-asked.asked.items in
    let d = c.in_ok-decided.decided in
    let at = c.verdict_at-at.result in
    let v = c.in_ok-verdict.verdict in
    let sound : AreSoundFunctions f = record { graph = c.keeps.ensures.graph; values = c.keeps.ensures.values; distinct = c.keeps-2.ensures } in
    let are : AreAskedUnder f.places u.care c.args.cycle s.pairs left right asked =
    subst (λ (ps : List SignalPair). AreAskedUnder f.places u.care c.args.cycle ps left right asked) c.as_slice-pairs.ensures
    (subst (λ (ls : List Unfolded). AreAskedUnder f.places u.care c.args.cycle c.as_slice-pairs.result.now ls right asked) c.as_slice-left.ensures.value
    (subst (λ (rs : List Unfolded). AreAskedUnder f.places u.care c.args.cycle c.as_slice-pairs.result.now c.as_slice-left.result.now rs asked) c.as_slice-right.ensures.value c.in_ok-asked.ensures)) in
    let decided : HaveDecided f.aig c.args.conflicts asked d = subst (λ (os : List Obligation). HaveDecided f.aig c.args.conflicts os d) c.as_slice.ensures.value c.in_ok-decided.ensures in
    let verdict : IsVerdictAt d.different d.not_shown d.results at = subst (λ (rs : List PairResult). IsVerdictAt d.different d.not_shown rs at) c.as_slice-2.ensures c.verdict_at-at.ensures in
    let shown : IsShownIn s b f asked d.results c.args.cycle at v =
    subst (λ (rs : List PairResult). IsShownIn s b f asked rs c.args.cycle at v) c.as_slice-4.ensures
    (subst (λ (os : List Obligation). IsShownIn s b f os c.as_slice-4.result.now c.args.cycle at v) c.as_slice-3.ensures.value c.in_ok-verdict.ensures) in
    record {
      pairs_fit = pairs_fit assumption s b f c.requires.setup c.requires.bases sound c.args.cycle left right c.requires.functions u.care cared asked are c.args.conflicts d.results decided.results;
      verdict_is = verdict_in assumption s b f c.requires.setup c.requires.bases sound c.args.cycle left right c.requires.functions u.care cared asked are c.args.conflicts d decided at v verdict shown;
    }
