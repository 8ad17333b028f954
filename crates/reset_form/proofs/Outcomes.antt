-- What is found fits, and each refusal has its cause.
use Rattle.std.proofs.Common.{◌≡◌, ◌≢◌, ℕ, List, map, true, false, Option, Some, None, refl, sym, ◌∙◌, ap, subst}
use Rattle.std.proofs.lemmas.Option.{same_Some, slice_get_within}
use Rattle.sec_base.specs.declared.basics.PairAnswer.{PairAnswer}
use Rattle.sec_base.specs.declared.basics.PairAnswer.TheVariants as answer
use Rattle.pair_decide.specs.declared.query.Proof.{Proof}
use Rattle.obligations.specs.declared.outcome.verdict.PairResult.{PairResult}
use Rattle.obligations.specs.declared.obligation.Obligation.{Obligation}
use Rattle.obligations.specs.declared.obligation.Difference.{Difference}
use Rattle.obligations.specs.declared.decision.Decided.{Decided}
use Rattle.obligations.specs.declared.verdict.VerdictAt.{VerdictAt}
use Rattle.obligations.specs.declared.verdict.VerdictAt.TheVariants as at
use Rattle.obligations.specs.Decided.{AnswerIs, NoneIs, IsAnswered, IsFirstOf, IsFirst, HaveDecided}
use Rattle.obligations.specs.Verdict.{IsVerdictAt}
use Rattle.sec_setup.specs.declared.ports.pairs.SignalPair.{SignalPair}
use Rattle.sec_setup.specs.declared.setup.Setup.{Setup}
use Rattle.sec_setup.specs.ports.Pairs.{places_of}
use Rattle.obligations.proofs.swept_queries.Listed.{zip_left}
use Rattle.circuit_theory.proofs.Lists.{zip_right}
use Rattle.reset_form.specs.declared.reset_functions.bases.Bases.{Bases}
use Rattle.reset_form.specs.declared.reset_functions.functions.Functions.{Functions}
use Rattle.reset_form.specs.declared.reset_asked.findings.ResetVerdict.{ResetVerdict}
use Rattle.reset_form.specs.reset_asked.Asked.{AskedOf, AreAsked}
use Rattle.reset_form.specs.reset_asked.Numbers.{numbered}
use Rattle.reset_form.specs.Findings.{VerdictFits}
use Rattle.reset_form.specs.Shown.{CanBeShown, IsShown}
use Rattle.reset_form.proofs.FirstPairs.{first_pair, showable}
use Rattle.reset_form.proofs.reset_functions.OwnPairs.{ArePairsIn}
use Rattle.reset_form.proofs.reset_asked.Sound.{AreSound}

-- the only answer left
answer_left : (x : PairAnswer) → x ≢ answer.Different → x ≢ answer.Limit → x ≢ answer.NotShown → x ≡ answer.Equal
answer_left answer.Equal d l n = refl
answer_left answer.Different d l n = absurd (d refl)
answer_left answer.NotShown d l n = absurd (n refl)
answer_left answer.Limit d l n = absurd (l refl)

module _ (s : Setup) (b : Bases) (f : Functions) (h : AreSound s b f) (pairs : List SignalPair) (asked : List Obligation) (conflicts : ℕ) (d : Decided) (own : ArePairsIn s pairs) (are : AreAsked s b f pairs asked) (decided : HaveDecided f.aig conflicts asked d) where
  -- each difference shows that the circuits differ
  none_unshown : (x : Difference) → IsFirstOf f.aig asked answer.NotShown d.results x → ⊥
  none_unshown x first =
      let o = first.obligation in
      let z = zip_left (AskedOf s b f) pairs asked are x.pair o first.asked_at in
      let a = zip_right (IsAnswered f.aig conflicts) asked d.results decided.results x.pair o first.asked_at in
      let r : a.0 ≡ first.result = same_Some a.0 first.result (sym a.1 ∙ first.result_at) in
      not_unshown o a.0.answer a.0.proof (ap (λ (y : PairResult). y.answer) r ∙ first.answered) z.2.decisive_is a.2.answer_is
    where
      no : true ≡ false → ⊥
      no e = cc

      not_unshown : (o : Obligation) (y : PairAnswer) (proof : Option Proof) → y ≡ answer.NotShown → o.decisive ≡ true → AnswerIs f.aig conflicts o y proof → ⊥
      not_unshown o answer.NotShown None e decisive k = no (sym decisive ∙ k.0)
      not_unshown o answer.NotShown (Some proof) e decisive k = k
      not_unshown o answer.Equal proof e decisive k = cc
      not_unshown o answer.Different proof e decisive k = cc
      not_unshown o answer.Limit proof e decisive k = cc

  -- the verdict can be shown
  pub can_be_shown : (y : VerdictAt) → IsVerdictAt d.different d.not_shown d.results y → CanBeShown f asked d.results y
  can_be_shown at.Equal i = tt
  can_be_shown (at.Different x) i = showable s b f h pairs asked own are answer.Different d.results x (subst (IsFirst f.aig asked answer.Different d.results) i decided.different)
  can_be_shown (at.Limit place) i = slice_get_within d.results place i.1.result i.1.at
  can_be_shown (at.NotShown x) i = none_unshown x (subst (IsFirst f.aig asked answer.NotShown d.results) i.2 decided.not_shown)

  -- and is that of the pairs
  pub verdict_fits : (y : VerdictAt) (v : ResetVerdict) → IsVerdictAt d.different d.not_shown d.results y → IsShown s b f asked d.results y v → VerdictFits (numbered s b) (map places_of pairs) d.results v
  verdict_fits y v is shown = go y is shown
    where
      Fits : ResetVerdict → Type 0
      Fits w = VerdictFits (numbered s b) (map places_of pairs) d.results w

      none_of : (wanted : PairAnswer) (first : Option Difference) → first ≡ None → IsFirst f.aig asked wanted d.results first → NoneIs wanted d.results
      none_of wanted first e k = subst (IsFirst f.aig asked wanted d.results) e k

      first_of : (wanted : PairAnswer) (first : Option Difference) (x : Difference) → first ≡ Some x → IsFirst f.aig asked wanted d.results first → IsFirstOf f.aig asked wanted d.results x
      first_of wanted first x e k = subst (IsFirst f.aig asked wanted d.results) e k

      go : (x : VerdictAt) → IsVerdictAt d.different d.not_shown d.results x → IsShown s b f asked d.results x v → Fits v
      go at.Equal i k =
          let different = none_of answer.Different d.different i.0 decided.different in
          let unshown = none_of answer.NotShown d.not_shown i.2 decided.not_shown in
          subst Fits (sym k) (λ j e inside. answer_left _ (different j e inside) (i.1 j e inside) (unshown j e inside))
      go (at.Different x) i k = subst Fits (sym k.1) (first_pair s b f h pairs asked own are conflicts d.results x k.0 decided.results (first_of answer.Different d.different x i decided.different) k.2)
      go (at.Limit place) i k =
          let l = i.1 in
          let r : k.0 ≡ l.result = same_Some k.0 l.result (sym k.1 ∙ l.at) in
          subst Fits (sym k.2) (record {
            index = place;
            result = l.result;
            result_is = l.at;
            limit = l.limit;
            earlier = l.earlier;
            no_difference = none_of answer.Different d.different i.0 decided.different;
            named = ap (λ (x : PairResult). x.name) r;
          })
      go (at.NotShown x) i k = absurd k
