-- What is found fits, and can be shown.
use Rattle.std.proofs.Common.{◌≡◌, ◌≢◌, ℕ, List, [], ◌∷◌, map, Option, Some, None, refl, sym, ◌∙◌, ap, subst, inl, inr}
use Rattle.std.specs.List.{All}
use Rattle.std.proofs.lemmas.List.Elements.{All-nil, All-cons}
use Rattle.std.proofs.lemmas.Option.{same_Some, slice_get_within}
use Rattle.sec_base.specs.declared.basics.PairAnswer.{PairAnswer}
use Rattle.sec_base.specs.declared.basics.PairAnswer.TheVariants as answer
use Rattle.flat_net.specs.View.{circuit_of}
use Rattle.obligations.specs.declared.outcome.verdict.LimitAt.TheVariants as limit_at
use Rattle.obligations.specs.declared.outcome.verdict.PairResult.{PairResult}
use Rattle.obligations.specs.declared.outcome.verdict.Verdict.{Verdict}
use Rattle.sec_setup.specs.declared.setup.Setup.{Setup}
use Rattle.sec_setup.specs.declared.ports.pairs.SignalPair.{SignalPair}
use Rattle.sec_setup.specs.ports.Pairs.{places_of}
use Rattle.obligations.specs.declared.obligation.Obligation.{Obligation}
use Rattle.obligations.specs.declared.obligation.Difference.{Difference}
use Rattle.obligations.specs.declared.decision.Decided.{Decided}
use Rattle.obligations.specs.declared.verdict.VerdictAt.{VerdictAt}
use Rattle.obligations.specs.declared.verdict.VerdictAt.TheVariants as at
use Rattle.obligations.specs.Decided.{NoneIs, IsFirstOf, IsFirst, HaveDecided}
use Rattle.obligations.specs.Verdict.{IsVerdictAt}
use Rattle.plain_asked.specs.declared.functions.Functions.{Functions}
use Rattle.plain_asked.specs.Asked.{AskedApart, AreAskedApart}
use Rattle.plain_check.specs.plain_form.Shown.{CanBeShown, IsShown}
use Rattle.plain_asked.specs.outcome_fits.Outcome.{VerdictFits}
use Rattle.pair_decide.specs.Queries.{IsQuery}
use Rattle.obligations.specs.Asked as obligations_are
use Rattle.plain_asked.proofs.Sound.{AreSound, ArePairsIn}
use Rattle.plain_check.proofs.plain_form.FirstPairs.{first_pair, showable, own_query}

-- the only answer left
answer_left : (x : PairAnswer) → x ≢ answer.Different → x ≢ answer.Limit → x ≢ answer.NotShown → x ≡ answer.Equal
answer_left answer.Equal d l n = refl
answer_left answer.Different d l n = absurd (d refl)
answer_left answer.NotShown d l n = absurd (n refl)
answer_left answer.Limit d l n = absurd (l refl)

-- the verdict at an obligation is that of the pairs
pub verdict_fits : (s : Setup) (f : Functions) (h : AreSound s f) (pairs : List SignalPair) (asked : List Obligation) (conflicts : ℕ) (d : Decided) (y : VerdictAt) (v : Verdict) → ArePairsIn s pairs → AreAskedApart s f pairs asked → HaveDecided f.aig conflicts asked d →
    IsVerdictAt d.different d.not_shown d.results y → IsShown f s.columns asked d.results y v → VerdictFits (circuit_of s.left.now) (circuit_of s.right.now) s.orders.left s.orders.right s.columns (map places_of pairs) d.results v
verdict_fits s f h pairs asked conflicts d y v own are decided is shown = go y is shown
  where
    Fits : Verdict → Type 0
    Fits w = VerdictFits (circuit_of s.left.now) (circuit_of s.right.now) s.orders.left s.orders.right s.columns (map places_of pairs) d.results w

    none_of : (wanted : PairAnswer) (first : Option Difference) → first ≡ None → IsFirst f.aig asked wanted d.results first → NoneIs wanted d.results
    none_of wanted first e k = subst (IsFirst f.aig asked wanted d.results) e k

    first_of : (wanted : PairAnswer) (first : Option Difference) (x : Difference) → first ≡ Some x → IsFirst f.aig asked wanted d.results first → IsFirstOf f.aig asked wanted d.results x
    first_of wanted first x e k = subst (IsFirst f.aig asked wanted d.results) e k

    go : (x : VerdictAt) → IsVerdictAt d.different d.not_shown d.results x → IsShown f s.columns asked d.results x v → Fits v
    go at.Equal i k =
        let different = none_of answer.Different d.different i.0 decided.different in
        let unshown = none_of answer.NotShown d.not_shown i.2 decided.not_shown in
        subst Fits (sym k) (λ j e inside. answer_left _ (different j e inside) (i.1 j e inside) (unshown j e inside))
    go (at.Different x) i k =
        subst Fits (sym k.1) (first_pair s f h pairs asked own are conflicts d.results answer.Different x k.0 decided.results (first_of answer.Different d.different x i decided.different) k.2)
    go (at.Limit place) i k =
        let l = i.1 in
        let r : k.0 ≡ l.result = same_Some k.0 l.result (sym k.1 ∙ l.at) in
        subst Fits (sym k.2) (record {
          index = place;
          result = l.result;
          result_is = l.at;
          limit = l.limit;
          earlier = l.earlier;
          no_difference = none_of answer.Different d.different i.0 decided.different;
          at_is = ap (λ (x : PairResult). limit_at.Pair x.name) r;
        })
    go (at.NotShown x) i k =
        subst Fits (sym k.1) (
          none_of answer.Different d.different i.0 decided.different,
          i.1,
          first_pair s f h pairs asked own are conflicts d.results answer.NotShown x k.0 decided.results (first_of answer.NotShown d.not_shown x i.2 decided.not_shown) k.2,
        )

-- what is asked of pairs are queries over the graph
pub are_asked : (s : Setup) (f : Functions) (h : AreSound s f) (pairs : List SignalPair) (asked : List Obligation) → AreAskedApart s f pairs asked → obligations_are.AreAsked f.aig asked
are_asked s f h [] [] are = All-nil (λ (o : Obligation). All (IsQuery f.aig) o.queries)
are_asked s f h [] (o ∷ asked) are = absurd are
are_asked s f h (p ∷ pairs) [] are = absurd are
are_asked s f h (p ∷ pairs) (o ∷ asked) are =
    All-cons (λ (x : Obligation). All (IsQuery f.aig) x.queries) o asked (go are.0) (are_asked s f h pairs asked are.1)
  where
    go : AskedApart s f p o → All (IsQuery f.aig) o.queries
    go (inl k) = subst (All (IsQuery f.aig)) (sym k.queries_are.1) (All-cons (IsQuery f.aig) k.queries_are.0 [] (own_query s f h p o k) (All-nil (IsQuery f.aig)))
    go (inr n) = subst (All (IsQuery f.aig)) (sym n.asks.queries_are) (All-nil (IsQuery f.aig))

-- the verdict can be shown
pub can_be_shown : (s : Setup) (f : Functions) (h : AreSound s f) (pairs : List SignalPair) (asked : List Obligation) (conflicts : ℕ) (d : Decided) (y : VerdictAt) → ArePairsIn s pairs → AreAskedApart s f pairs asked → HaveDecided f.aig conflicts asked d →
    IsVerdictAt d.different d.not_shown d.results y → CanBeShown f s.columns asked d.results y
can_be_shown s f h pairs asked conflicts d y own are decided is = go y is
  where
    go : (x : VerdictAt) → IsVerdictAt d.different d.not_shown d.results x → CanBeShown f s.columns asked d.results x
    go at.Equal i = tt
    go (at.Different x) i = showable s f h pairs asked own are answer.Different d.results x (subst (IsFirst f.aig asked answer.Different d.results) i decided.different)
    go (at.Limit place) i = slice_get_within d.results place i.1.result i.1.at
    go (at.NotShown x) i = showable s f h pairs asked own are answer.NotShown d.results x (subst (IsFirst f.aig asked answer.NotShown d.results) i.2 decided.not_shown)
