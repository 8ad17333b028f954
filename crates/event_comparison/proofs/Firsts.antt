-- What is found at the obligations is what is found of the pairs.
use Rattle.std.proofs.Common.{◌≡◌, ◌≢◌, ◌∙◌, ℕ, Bool, true, false, List, slice_get, Option, Some, None, refl, sym, ap, subst}
use Rattle.std.specs.List.{AllZip}
use Rattle.std.proofs.lemmas.Option.{same_Some}
use Rattle.circuit_theory.specs.Depth.{LatchesHaveDepths}
use Rattle.circuit_theory.specs.Run.{IsEnabled}
use Rattle.circuit_theory.proofs.Lists.{zip_right}
use Rattle.circuit_theory.specs.Classes.{HasClasses}
use Rattle.sec_base.specs.declared.basics.PairAnswer.{PairAnswer}
use Rattle.sec_base.specs.declared.basics.PairAnswer.TheVariants as answer
use Rattle.edbf_unfold.specs.class_queries.Laws.{AreKept}
use Rattle.event_nodes.specs.Nodes.{EventGraphView, IsEventGraph, GrowsEvents}
use Rattle.sec_setup.specs.declared.ports.pairs.SignalPair.{SignalPair}
use Rattle.obligations.specs.declared.decision.Decided.{Decided}
use Rattle.obligations.specs.declared.obligation.Difference.{Difference}
use Rattle.obligations.specs.declared.obligation.Obligation.{Obligation}
use Rattle.obligations.specs.declared.verdict.VerdictAt.{VerdictAt}
use Rattle.obligations.specs.declared.verdict.VerdictAt.TheVariants as at
use Rattle.obligations.specs.Decided.{HaveDecided, IsAnswered, IsFirst, IsFirstOf, NoneIs}
use Rattle.obligations.specs.Verdict.{IsVerdictAt}
use Rattle.obligations.specs.declared.outcome.verdict.PairResult.{PairResult}
use Rattle.pair_decide.specs.declared.query.Query.{Query}
use Rattle.event_form.specs.event_agreement.pair_events.View.{EventsView, side_of_both}
use Rattle.obligations.proofs.swept_queries.Listed.{zip_left}
use Rattle.witness_report.specs.declared.witness.Witness.{Witness}
use Rattle.event_form.specs.Answers.{PairFits}
use Rattle.event_form.specs.Asked.{AreAsked, IsAskedOf, IsDecisive}
use Rattle.event_form.specs.declared.event_findings.event_witness.unshown.UnshownFrame.{UnshownFrame}
use Rattle.event_form.specs.event_findings.event_witness.Sequences.{IsWitnessOf}
use Rattle.event_form.specs.event_findings.event_witness.Shown.{IsQueryAt, IsUnshownAt, IsWitnessAt}
use Rattle.event_form.specs.event_findings.event_witness.Unshown.{IsUnshownOf}
use Rattle.event_form.proofs.event_findings.event_witness.Differing.{only_query}
use Rattle.event_form.proofs.event_findings.event_witness.Growing.{differences_later}
use Rattle.event_form.specs.event_findings.unshown_pairs.Reached.{BothReachAlways}
use Rattle.event_form.specs.event_findings.Compared.{AreCompared, IsEventDepth}
use Rattle.event_comparison.specs.Decided.{AreFound}
use Rattle.event_form.specs.event_findings.Findings.{IsFirstWith, IsFirstDifference, IsFirstLimit, IsFrameOf, IsSequenceOf, VerdictFits, FindingsFit}
use Rattle.event_comparison.specs.Shown.{IsShown, IsShownUnshown}
use Rattle.event_form.specs.declared.event_findings.findings.EventFindings.{EventFindings}
use Rattle.event_form.specs.declared.event_findings.pairs.EventPairs.{EventPairs}
use Rattle.event_form.specs.declared.event_findings.verdict.EventVerdict.{EventVerdict}
use Rattle.event_form.specs.declared.event_findings.verdict.EventVerdict.TheVariants as verdict
use Rattle.event_comparison.proofs.Asked.{is_decisive, isnt_decisive, results_fit}
use Rattle.event_comparison.proofs.Sequences.{frame_is, sequence_is}

-- the only answer left
answer_left : (x : PairAnswer) → x ≢ answer.Different → x ≢ answer.Limit → x ≢ answer.NotShown → x ≡ answer.Equal
answer_left answer.Equal d l n = refl
answer_left answer.Different d l n = absurd (d refl)
answer_left answer.NotShown d l n = absurd (n refl)
answer_left answer.Limit d l n = absurd (l refl)

-- what is asked over an event graph is decided, and the graph grows
module _ (v : EventGraphView) (e : EventsView) (c : EventPairs) (conflicts : ℕ) (asked : List Obligation) (graph : IsEventGraph v) (grows : GrowsEvents v e.events) (kept : AreKept e.left e.right e.events) (classes : HasClasses (side_of_both e))
    (deep : LatchesHaveDepths (side_of_both e).circuit (IsEnabled (side_of_both e).circuit)) (compared : AreCompared e.left e.right c) (before : AreAsked (side_of_both e) v c.cut c.pairs.now asked) (are : AreAsked (side_of_both e) e.events c.cut c.pairs.now asked) where
  -- the pair of an obligation
  pub record HasPair (wanted : PairAnswer) (results : List PairResult) (d : Difference) : Type 0 where
    pub first : IsFirstOf e.events.graph asked wanted results d
    pub pair : SignalPair
    pub pair_at : slice_get c.pairs.now d.pair ≡ Some pair
    pub asks : IsAskedOf (side_of_both e) e.events c.cut pair first.obligation

  pair_of : (wanted : PairAnswer) (results : List PairResult) (d : Difference) → IsFirstOf v.graph asked wanted results d → HasPair wanted results d
  pair_of wanted results d first =
      let later = differences_later (side_of_both e) v e.events c.cut c.pairs.now asked wanted results d graph grows before first in
      let z = zip_left (IsAskedOf (side_of_both e) e.events c.cut) c.pairs.now asked are d.pair later.obligation later.asked_at in
      record { first = later; pair = z.0; pair_at = z.1; asks = z.2 }

  module _ (wanted : PairAnswer) (results : List PairResult) (d : Difference) (h : HasPair wanted results d) where
    abbrev o : Obligation
    o = h.first.obligation

    abbrev p : SignalPair
    p = h.pair

    abbrev k : IsAskedOf (side_of_both e) e.events c.cut p o
    k = h.asks

    first_with : IsFirstWith wanted c.pairs.now results d.pair p
    first_with = record { result = h.first.result; pair_at = h.pair_at; result_at = h.first.result_at; answered = h.first.answered; earlier = h.first.earlier }

    -- the obligation and the query are those that are shown
    own_query : (shown : Obligation) (q : Query) → IsQueryAt asked d shown q → (shown ≡ o) × (q ≡ k.query)
    own_query shown q at =
        let same : shown ≡ o = same_Some shown o (sym at.asked_at ∙ h.first.asked_at) in
        let query_at : slice_get o.queries d.query ≡ Some q = subst (λ (y : Obligation). slice_get y.queries d.query ≡ Some q) same at.query_at in
        (same, only_query k.query o.queries d.query q k.only query_at)

    sequence : (x : Witness) → BothReachAlways (side_of_both e) p → IsWitnessAt e.events asked c.depths.now c.names.now d x → (x.pair ≡ p.name) × IsSequenceOf e.left e.right c.names.now p x
    sequence x always shown =
        let z = zip_right (IsEventDepth e.left e.right) c.pairs.now c.depths.now compared.depths_are d.pair p h.pair_at in
        let same_depth : z.0 ≡ shown.depth = same_Some z.0 shown.depth (sym z.1 ∙ shown.depth_at) in
        let far : IsEventDepth e.left e.right p shown.depth = subst (IsEventDepth e.left e.right p) same_depth z.2 in
        let own = own_query shown.obligation shown.query shown.at in
        let is : IsWitnessOf e.events k.query d.bits o.name shown.depth c.names.now x =
        subst (λ (q : Query). IsWitnessOf e.events q d.bits o.name shown.depth c.names.now x) own.1 (subst (λ (y : Obligation). IsWitnessOf e.events shown.query d.bits y.name shown.depth c.names.now x) own.0 shown.is) in
        (is.pair_is ∙ k.name_is, sequence_is e.left e.right e.events c kept classes deep compared p o k d.query d.bits h.first.differs d.pair h.pair_at always shown.depth far x is)

    frame : (x : UnshownFrame) → IsUnshownAt e.events asked d x → (x.pair ≡ p.name) × IsFrameOf e.left e.right p x
    frame x shown =
        let own = own_query shown.obligation shown.query shown.at in
        let is : IsUnshownOf e.events k.query d.bits o.name x =
        subst (λ (q : Query). IsUnshownOf e.events q d.bits o.name x) own.1 (subst (λ (y : Obligation). IsUnshownOf e.events shown.query d.bits y.name x) own.0 shown.is) in
        (is.pair_is ∙ k.name_is, frame_is e.left e.right e.events c kept classes deep compared p o k d.query d.bits h.first.differs x is)

    -- the result of the obligation
    answered : AllZip (IsAnswered v.graph conflicts) asked results → (r : PairResult) × IsAnswered v.graph conflicts o r × (r.answer ≡ wanted)
    answered all =
        let r = zip_right (IsAnswered v.graph conflicts) asked results all d.pair o h.first.asked_at in
        let same : r.0 ≡ h.first.result = same_Some r.0 h.first.result (sym r.1 ∙ h.first.result_at) in
        (r.0, r.2, ap (λ (y : PairResult). y.answer) same ∙ h.first.answered)

  first_difference : (results : List PairResult) (d : Difference) (x : Witness) → AllZip (IsAnswered v.graph conflicts) asked results → IsFirstOf v.graph asked answer.Different results d → IsWitnessAt e.events asked c.depths.now c.names.now d x → IsFirstDifference e.left e.right c results x
  first_difference results d x all first shown =
      let h = pair_of answer.Different results d first in
      let r = answered answer.Different results d h all in
      let only : IsDecisive (side_of_both e) c.cut h.pair.left.0 h.pair.right.0 = h.asks.decisive_is.0 (is_decisive v.graph conflicts h.first.obligation r.0.answer r.0.proof r.2 r.1.answer_is) in
      let s = sequence answer.Different results d h x (only.1, only.2) shown in
      record { index = d.pair; place = h.pair; first = first_with answer.Different results d h; named = s.0; sequence = s.1 }

  -- a pair that reaches class 0 alone is decisive where no latch is cut open
  cut_open : (results : List PairResult) (d : Difference) (h : HasPair answer.NotShown results d) → AllZip (IsAnswered v.graph conflicts) asked results → BothReachAlways (side_of_both e) h.pair → c.cut ≡ true
  cut_open results d h all always = go c.cut refl
    where
      wrong : true ≡ false → ⊥
      wrong q = cc

      go : (b : Bool) → c.cut ≡ b → c.cut ≡ true
      go true is = is
      go false is =
          let r = answered answer.NotShown results d h all in
          absurd (wrong (sym (h.asks.decisive_is.1 (is, always.0, always.1)) ∙ isnt_decisive v.graph conflicts h.first.obligation r.0.answer r.0.proof r.2 r.1.answer_is))

  first_unshown : (results : List PairResult) (d : Difference) (x : EventVerdict) → AllZip (IsAnswered v.graph conflicts) asked results → NoneIs answer.Different results → NoneIs answer.Limit results → IsFirstOf v.graph asked answer.NotShown results d → IsShownUnshown e c asked d x →
      VerdictFits e.left e.right c results x
  first_unshown results d verdict.Equal all different limit first shown = absurd shown
  first_unshown results d (verdict.Different x) all different limit first shown = absurd shown
  first_unshown results d (verdict.Limit x) all different limit first shown = absurd shown
  first_unshown results d (verdict.Cut x) all different limit first shown =
      let h = pair_of answer.NotShown results d first in
      let always : BothReachAlways (side_of_both e) h.pair = shown.1 h.pair h.pair_at in
      let s = sequence answer.NotShown results d h x always shown.0 in
      (different, limit, record { index = d.pair; place = h.pair; first = first_with answer.NotShown results d h; cut = cut_open results d h all always; always = always; named = s.0; sequence = s.1 })
  first_unshown results d (verdict.Events x) all different limit first shown =
      let h = pair_of answer.NotShown results d first in
      let f = frame answer.NotShown results d h x.frame shown.0 in
      (different, limit, record { index = d.pair; place = h.pair; first = first_with answer.NotShown results d h; named = f.0; frame = f.1; apart = shown.1 h.pair h.pair_at })

  verdict_fits : (d : Decided) (y : VerdictAt) (x : EventVerdict) → HaveDecided v.graph conflicts asked d → IsVerdictAt d.different d.not_shown d.results y → IsShown e c asked d.results y x → VerdictFits e.left e.right c d.results x
  verdict_fits d y x decided is shown = go y is shown
    where
      Fits : EventVerdict → Type 0
      Fits z = VerdictFits e.left e.right c d.results z

      none_of : (wanted : PairAnswer) (first : Option Difference) → first ≡ None → IsFirst v.graph asked wanted d.results first → NoneIs wanted d.results
      none_of wanted first none k = subst (IsFirst v.graph asked wanted d.results) none k

      first_of : (wanted : PairAnswer) (first : Option Difference) (z : Difference) → first ≡ Some z → IsFirst v.graph asked wanted d.results first → IsFirstOf v.graph asked wanted d.results z
      first_of wanted first z some k = subst (IsFirst v.graph asked wanted d.results) some k

      go : (z : VerdictAt) → IsVerdictAt d.different d.not_shown d.results z → IsShown e c asked d.results z x → Fits x
      go at.Equal i k =
          let different = none_of answer.Different d.different i.0 decided.different in
          let unshown = none_of answer.NotShown d.not_shown i.2 decided.not_shown in
          subst Fits (sym k) (λ j y inside. answer_left _ (different j y inside) (i.1 j y inside) (unshown j y inside))
      go (at.Different z) i k = subst Fits (sym k.1) (first_difference d.results z k.0 decided.results (first_of answer.Different d.different z i decided.different) k.2)
      go (at.Limit place) i k =
          let l = i.1 in
          let same : k.0 ≡ l.result = same_Some k.0 l.result (sym k.1 ∙ l.at) in
          let z = zip_left (PairFits (side_of_both e) c.cut conflicts) c.pairs.now d.results (results_fit (side_of_both e) v c.cut conflicts graph c.pairs.now asked d.results before decided.results) place l.result l.at in
          let first : IsFirstWith answer.Limit c.pairs.now d.results place z.0 = record { result = l.result; pair_at = z.1; result_at = l.at; answered = l.limit; earlier = l.earlier } in
          let limit : IsFirstLimit c.pairs.now d.results k.0.name = record { index = place; place = z.0; first = first; named = ap (λ (r : PairResult). r.name) same ∙ z.2.name_is } in
          subst Fits (sym k.2) (none_of answer.Different d.different i.0 decided.different, limit)
      go (at.NotShown z) i k = first_unshown d.results z x decided.results (none_of answer.Different d.different i.0 decided.different) i.1 (first_of answer.NotShown d.not_shown z i.2 decided.not_shown) k

  pub findings_fit : (f : EventFindings) → AreFound v e c conflicts asked f → FindingsFit e.left e.right c conflicts f
  findings_fit f found = record {
    pairs_fit = subst (λ (rs : List PairResult). AllZip (PairFits (side_of_both e) c.cut conflicts) c.pairs.now rs) (sym found.results) (results_fit (side_of_both e) v c.cut conflicts graph c.pairs.now asked found.decided.results before found.have.results);
    verdict_is = subst (λ (rs : List PairResult). VerdictFits e.left e.right c rs f.verdict) (sym found.results) (verdict_fits found.decided found.at f.verdict found.have found.found found.shown);
  }
