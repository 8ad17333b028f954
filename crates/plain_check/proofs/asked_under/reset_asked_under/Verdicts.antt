-- What is found under an assumption fits the circuits.
use Rattle.std.proofs.Common.{◌≡◌, ℕ, Bool, List, map, true, false, Option, Some, None, sym, ◌∙◌, ap, subst}
use Rattle.std.specs.List.{All, AllZip}
use Rattle.std.proofs.lemmas.Option.{same_Some, slice_get_within}
use Rattle.circuit_theory.proofs.Lists.{zip_right}
use Rattle.cbf_unfold.proofs.unfold_places.Zips.{zip_left}
use Rattle.sec_base.specs.declared.basics.PairAnswer.{PairAnswer}
use Rattle.sec_base.specs.declared.basics.PairAnswer.TheVariants as answer
use Rattle.pair_decide.specs.declared.query.Proof.{Proof}
use Rattle.pair_decide.specs.Queries.{IsQuery}
use Rattle.obligations.specs.declared.outcome.verdict.PairResult.{PairResult}
use Rattle.obligations.specs.declared.obligation.Obligation.{Obligation}
use Rattle.obligations.specs.declared.obligation.Difference.{Difference}
use Rattle.obligations.specs.declared.decision.Decided.{Decided}
use Rattle.obligations.specs.declared.verdict.VerdictAt.{VerdictAt}
use Rattle.obligations.specs.declared.verdict.VerdictAt.TheVariants as at
use Rattle.obligations.specs.Asked as obligations_are
use Rattle.obligations.specs.Decided.{AnswerIs, IsAnswered, IsFirstOf, IsFirst, HaveDecided}
use Rattle.obligations.specs.Verdict.{IsVerdictAt}
use Rattle.sec_setup.specs.declared.setup.Setup.{Setup}
use Rattle.sec_setup.specs.ports.Pairs.{places_of}
use Rattle.assume_laws.specs.Assume.{Assumption}
use Rattle.assume_queries.specs.declared.assume_answers.order.VariableOrder.TheVariants as order
use Rattle.assume_queries.specs.assume_answers.Under.{IsObligationUnder}
use Rattle.assume_queries.specs.assume_sequences.Filled.{bit_of}
use Rattle.reset_form.specs.declared.reset_functions.bases.Bases.{Bases}
use Rattle.reset_form.specs.declared.reset_functions.functions.Functions.{Functions}
use Rattle.reset_form.specs.declared.reset_asked.findings.ResetVerdict.{ResetVerdict}
use Rattle.reset_form.specs.reset_asked.Asked.{AskedOf}
use Rattle.reset_form.specs.reset_asked.Numbers.{numbered}
use Rattle.reset_form.proofs.reset_asked.Sound.{AreSound}
use Rattle.plain_check.specs.asked_under.reset_asked_under.Asked.{AreAskedUnder}
use Rattle.plain_check.specs.asked_under.reset_asked_under.Shown.{CanBeShownUnder, IsShownUnder}
use Rattle.plain_check.specs.under_base.under_fits.ResetVerdict.{PairFitsUnder}
use Rattle.plain_check.specs.asked_under.reset_asked_under.Verdict.{VerdictFitsUnder}
use Rattle.plain_check.proofs.asked_under.Verdicts.{each_under, each_result, all_equal, none_of}
use Rattle.plain_check.proofs.asked_under.reset_asked_under.PairCycles.{own_queries, pair_fits}
use Rattle.plain_check.proofs.asked_under.reset_asked_under.Sequences.{showable, first_pair}

module _ (c : Assumption) (s : Setup) (b : Bases) (f : Functions) (h : AreSound s b f) where
  module _ (asked under : List Obligation) (meeting : List Bool) (are : AreAskedUnder s b f asked under meeting c) where
    pub are_queries : obligations_are.AreAsked f.aig under
    are_queries = each_under (AskedOf s b f) (IsObligationUnder order.Cycles c f.aig f.places) (λ (o : Obligation). All (IsQuery f.aig) o.queries) (own_queries c s b f h.functions) s.pairs asked under are.asked_are are.under_are

    pub each_fits : (conflicts : ℕ) (results : List PairResult) → AllZip (IsAnswered f.aig conflicts) under results → AllZip (PairFitsUnder c (numbered s b) conflicts) (map places_of s.pairs) results
    each_fits conflicts results answered =
        each_result (AskedOf s b f) (IsObligationUnder order.Cycles c f.aig f.places) (IsAnswered f.aig conflicts) places_of (PairFitsUnder c (numbered s b) conflicts) (λ p o u r k under answered. pair_fits c s b f h.functions p o u k under conflicts r answered) s.pairs asked under results are.asked_are
        are.under_are answered

    module _ (conflicts : ℕ) (d : Decided) (decided : HaveDecided f.aig conflicts under d) where
      -- each difference shows that the circuits differ
      none_unshown : (x : Difference) → IsFirstOf f.aig under answer.NotShown d.results x → ⊥
      none_unshown x first =
          let u = first.obligation in
          let o = zip_left (IsObligationUnder order.Cycles c f.aig f.places) asked under are.under_are x.pair u first.asked_at in
          let p = zip_left (AskedOf s b f) s.pairs asked are.asked_are x.pair o.0 o.1 in
          let a = zip_right (IsAnswered f.aig conflicts) under d.results decided.results x.pair u first.asked_at in
          let r : a.0 ≡ first.result = same_Some a.0 first.result (sym a.1 ∙ first.result_at) in
          not_unshown u a.0.answer a.0.proof (ap (λ (y : PairResult). y.answer) r ∙ first.answered) (o.2.decisive_is ∙ p.2.decisive_is) a.2.answer_is
        where
          no : true ≡ false → ⊥
          no e = cc

          not_unshown : (u : Obligation) (y : PairAnswer) (proof : Option Proof) → y ≡ answer.NotShown → u.decisive ≡ true → AnswerIs f.aig conflicts u y proof → ⊥
          not_unshown u answer.NotShown None e decisive k = no (sym decisive ∙ k.0)
          not_unshown u answer.NotShown (Some proof) e decisive k = k
          not_unshown u answer.Equal proof e decisive k = cc
          not_unshown u answer.Different proof e decisive k = cc
          not_unshown u answer.Limit proof e decisive k = cc

      -- the verdict can be shown
      pub can_be_shown : (y : VerdictAt) → IsVerdictAt d.different d.not_shown d.results y → CanBeShownUnder f asked under d.results y
      can_be_shown at.Equal i = tt
      can_be_shown (at.Different x) i = showable c s b f h asked under meeting are answer.Different d.results x (subst (IsFirst f.aig under answer.Different d.results) i decided.different)
      can_be_shown (at.Limit place) i = slice_get_within d.results place i.1.result i.1.at
      can_be_shown (at.NotShown x) i = none_unshown x (subst (IsFirst f.aig under answer.NotShown d.results) i.2 decided.not_shown)

      -- and is that of the pairs
      pub verdict_fits : (y : VerdictAt) (v : ResetVerdict) → IsVerdictAt d.different d.not_shown d.results y → IsShownUnder s b f asked under meeting d.results y v → VerdictFitsUnder c (numbered s b) (bit_of meeting) (map places_of s.pairs) d.results v
      verdict_fits y v is shown = go y is shown
        where
          Fits : ResetVerdict → Type 0
          Fits w = VerdictFitsUnder c (numbered s b) (bit_of meeting) (map places_of s.pairs) d.results w

          first_of : (wanted : PairAnswer) (first : Option Difference) (x : Difference) → first ≡ Some x → IsFirst f.aig under wanted d.results first → IsFirstOf f.aig under wanted d.results x
          first_of wanted first x e k = subst (IsFirst f.aig under wanted d.results) e k

          go : (x : VerdictAt) → IsVerdictAt d.different d.not_shown d.results x → IsShownUnder s b f asked under meeting d.results x v → Fits v
          go at.Equal i k =
              let different = none_of f.aig under d.results answer.Different d.different i.0 decided.different in
              let unshown = none_of f.aig under d.results answer.NotShown d.not_shown i.2 decided.not_shown in
              subst Fits (sym k) (all_equal d.results different i.1 unshown)
          go (at.Different x) i k = subst Fits (sym k.1) (first_pair c s b f h asked under meeting are conflicts d.results x k.0 decided.results (first_of answer.Different d.different x i decided.different) k.2)
          go (at.Limit place) i k =
              let l = i.1 in
              let r : k.0 ≡ l.result = same_Some k.0 l.result (sym k.1 ∙ l.at) in
              subst Fits (sym k.2) (record {
                index = place;
                result = l.result;
                result_is = l.at;
                limit = l.limit;
                earlier = l.earlier;
                no_difference = none_of f.aig under d.results answer.Different d.different i.0 decided.different;
                named = ap (λ (x : PairResult). x.name) r;
              })
          go (at.NotShown x) i k = absurd k
