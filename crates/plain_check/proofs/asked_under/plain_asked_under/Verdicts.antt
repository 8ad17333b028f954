-- What is found under an assumption fits the circuits.
use Rattle.std.proofs.Common.{◌≡◌, ℕ, Bool, List, map, Option, Some, sym, ◌∙◌, ap, subst}
use Rattle.std.specs.List.{All, AllZip}
use Rattle.std.proofs.lemmas.Option.{same_Some, slice_get_within}
use Rattle.sec_base.specs.declared.basics.PairAnswer.{PairAnswer}
use Rattle.sec_base.specs.declared.basics.PairAnswer.TheVariants as answer
use Rattle.flat_net.specs.View.{circuit_of}
use Rattle.pair_decide.specs.Queries.{IsQuery}
use Rattle.obligations.specs.declared.outcome.verdict.LimitAt.TheVariants as limit_at
use Rattle.obligations.specs.declared.outcome.verdict.PairResult.{PairResult}
use Rattle.obligations.specs.declared.outcome.verdict.Verdict.{Verdict}
use Rattle.obligations.specs.declared.obligation.Obligation.{Obligation}
use Rattle.obligations.specs.declared.obligation.Difference.{Difference}
use Rattle.obligations.specs.declared.decision.Decided.{Decided}
use Rattle.obligations.specs.declared.verdict.VerdictAt.{VerdictAt}
use Rattle.obligations.specs.declared.verdict.VerdictAt.TheVariants as at
use Rattle.obligations.specs.Asked as obligations_are
use Rattle.obligations.specs.Decided.{IsAnswered, IsFirstOf, IsFirst, HaveDecided}
use Rattle.obligations.specs.Verdict.{IsVerdictAt}
use Rattle.sec_setup.specs.declared.setup.Setup.{Setup}
use Rattle.sec_setup.specs.Cuts.{is_cut}
use Rattle.sec_setup.specs.ports.Pairs.{places_of}
use Rattle.assume_laws.specs.Assume.{Assumption}
use Rattle.assume_queries.specs.declared.assume_answers.order.VariableOrder.TheVariants as order
use Rattle.assume_queries.specs.assume_answers.Under.{IsObligationUnder}
use Rattle.assume_queries.specs.assume_sequences.Filled.{bit_of}
use Rattle.plain_asked.specs.declared.functions.Functions.{Functions}
use Rattle.plain_asked.specs.Asked.{AskedOf}
use Rattle.plain_asked.proofs.Sound.{AreSound}
use Rattle.plain_check.specs.asked_under.plain_asked_under.Laws.{AreBuilt}
use Rattle.plain_check.proofs.asked_under.Verdicts.{each_under, each_result, all_equal, none_of}
use Rattle.plain_check.proofs.asked_under.plain_asked_under.PairsUnder.{pairs_fit_under}
use Rattle.plain_check.specs.asked_under.plain_asked_under.Asked.{AreAskedUnder}
use Rattle.plain_check.specs.asked_under.plain_asked_under.Shown.{CanBeShownUnder, IsShownUnder}
use Rattle.plain_check.specs.under_base.under_fits.Pairs.{PairFitsUnder}
use Rattle.plain_check.specs.under_base.under_fits.Verdict.{EachFitsUnder, VerdictFitsUnder}
use Rattle.plain_check.proofs.asked_under.plain_asked_under.Sequences.{showable, first_pair}

module _ (c : Assumption) (s : Setup) (f : Functions) (h : AreSound s f) where
  built : AreBuilt f
  built = record { graph = h.graph; values = h.values; distinct = h.distinct }

  module _ (asked under : List Obligation) (meeting : List Bool) (are : AreAskedUnder s f asked under meeting c) where
    pub are_queries : obligations_are.AreAsked f.aig under
    are_queries = each_under (AskedOf s f) (IsObligationUnder order.Shifts c f.aig f.places) (λ (o : Obligation). All (IsQuery f.aig) o.queries) (λ p o u k under. (pairs_fit_under c s f p o u built k under).0) s.pairs asked under are.asked_are are.under_are

    pub each_fits : (conflicts : ℕ) (results : List PairResult) → AllZip (IsAnswered f.aig conflicts) under results →
        EachFitsUnder c (circuit_of s.left.now) (circuit_of s.right.now) s.orders.left s.orders.right (is_cut s.exposed) conflicts (map places_of s.pairs) results
    each_fits conflicts results answered =
        each_result (AskedOf s f) (IsObligationUnder order.Shifts c f.aig f.places) (IsAnswered f.aig conflicts) places_of (PairFitsUnder c (circuit_of s.left.now) (circuit_of s.right.now) s.orders.left s.orders.right (is_cut s.exposed) conflicts) (λ p o u r k under answered. (pairs_fit_under c s f p o u built k under).1 conflicts r answered) s.pairs asked under results are.asked_are
        are.under_are answered

    module _ (conflicts : ℕ) (d : Decided) (decided : HaveDecided f.aig conflicts under d) where
      -- the verdict can be shown
      pub can_be_shown : (y : VerdictAt) → IsVerdictAt d.different d.not_shown d.results y → CanBeShownUnder f s.columns asked under d.results y
      can_be_shown at.Equal i = tt
      can_be_shown (at.Different x) i = showable c s f h asked under meeting are answer.Different d.results x (subst (IsFirst f.aig under answer.Different d.results) i decided.different)
      can_be_shown (at.Limit place) i = slice_get_within d.results place i.1.result i.1.at
      can_be_shown (at.NotShown x) i = showable c s f h asked under meeting are answer.NotShown d.results x (subst (IsFirst f.aig under answer.NotShown d.results) i.2 decided.not_shown)

      -- the verdict at an obligation is that of the pairs
      pub verdict_fits : (y : VerdictAt) (v : Verdict) → IsVerdictAt d.different d.not_shown d.results y → IsShownUnder f s.columns asked under meeting d.results y v →
          VerdictFitsUnder c (circuit_of s.left.now) (circuit_of s.right.now) s.orders.left s.orders.right s.columns (bit_of meeting) (map places_of s.pairs) d.results v
      verdict_fits y v is shown = go y is shown
        where
          Fits : Verdict → Type 0
          Fits w = VerdictFitsUnder c (circuit_of s.left.now) (circuit_of s.right.now) s.orders.left s.orders.right s.columns (bit_of meeting) (map places_of s.pairs) d.results w

          first_of : (wanted : PairAnswer) (first : Option Difference) (x : Difference) → first ≡ Some x → IsFirst f.aig under wanted d.results first → IsFirstOf f.aig under wanted d.results x
          first_of wanted first x e k = subst (IsFirst f.aig under wanted d.results) e k

          go : (x : VerdictAt) → IsVerdictAt d.different d.not_shown d.results x → IsShownUnder f s.columns asked under meeting d.results x v → Fits v
          go at.Equal i k =
              let different = none_of f.aig under d.results answer.Different d.different i.0 decided.different in
              let unshown = none_of f.aig under d.results answer.NotShown d.not_shown i.2 decided.not_shown in
              subst Fits (sym k) (all_equal d.results different i.1 unshown)
          go (at.Different x) i k =
              subst Fits (sym k.1) (first_pair c s f h asked under meeting are conflicts d.results answer.Different x k.0 decided.results (first_of answer.Different d.different x i decided.different) k.2)
          go (at.Limit place) i k =
              let l = i.1 in
              let r : k.0 ≡ l.result = same_Some k.0 l.result (sym k.1 ∙ l.at) in
              subst Fits (sym k.2) (record {
                index = place;
                result = l.result;
                result_is = l.at;
                limit = l.limit;
                earlier = l.earlier;
                no_difference = none_of f.aig under d.results answer.Different d.different i.0 decided.different;
                at_is = ap (λ (x : PairResult). limit_at.Pair x.name) r;
              })
          go (at.NotShown x) i k =
              subst Fits (sym k.1) (
                none_of f.aig under d.results answer.Different d.different i.0 decided.different,
                i.1,
                first_pair c s f h asked under meeting are conflicts d.results answer.NotShown x k.0 decided.results (first_of answer.NotShown d.not_shown x i.2 decided.not_shown) k.2,
              )
