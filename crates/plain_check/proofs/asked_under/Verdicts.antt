-- From each obligation to its pair, and from what is the first of its kind to the verdict.
use Rattle.std.proofs.Common.{◌≡◌, ◌≢◌, List, [], ◌∷◌, map, Option, None, refl, subst}
use Rattle.std.specs.List.{All, AllZip}
use Rattle.std.proofs.lemmas.List.Elements.{All-nil, All-cons}
use Rattle.sec_base.specs.declared.basics.PairAnswer.{PairAnswer}
use Rattle.sec_base.specs.declared.basics.PairAnswer.TheVariants as answer
use Rattle.aig.specs.declared.node.Node.{Node}
use Rattle.obligations.specs.declared.outcome.verdict.PairResult.{PairResult}
use Rattle.obligations.specs.declared.obligation.Obligation.{Obligation}
use Rattle.obligations.specs.declared.obligation.Difference.{Difference}
use Rattle.obligations.specs.Decided.{NoneIs, IsFirst}

module _ {X Y Z : Type 0} (R : X → Y → Type 0) (S : Y → Z → Type 0) where
  -- what is so of each that is under one of some pair
  pub each_under : (P : Z → Type 0) → ((x : X) (y : Y) (z : Z) → R x y → S y z → P z) → (xs : List X) (ys : List Y) (zs : List Z) → AllZip R xs ys → AllZip S ys zs → All P zs
  each_under P h [] [] [] r s = All-nil P
  each_under P h [] [] (z ∷ zs) r s = absurd s
  each_under P h [] (y ∷ ys) zs r s = absurd r
  each_under P h (x ∷ xs) [] zs r s = absurd r
  each_under P h (x ∷ xs) (y ∷ ys) [] r s = absurd s
  each_under P h (x ∷ xs) (y ∷ ys) (z ∷ zs) r s = All-cons P z zs (h x y z r.0 s.0) (each_under P h xs ys zs r.1 s.1)

  -- and of each pair with the result of that
  pub each_result : {V W : Type 0} (T : Z → V → Type 0) (of : X → W) (P : W → V → Type 0) → ((x : X) (y : Y) (z : Z) (v : V) → R x y → S y z → T z v → P (of x) v) → (xs : List X) (ys : List Y) (zs : List Z) (vs : List V) → AllZip R xs ys → AllZip S ys zs →
      AllZip T zs vs → AllZip P (map of xs) vs
  each_result T of P h [] [] [] [] r s t = tt
  each_result T of P h [] [] [] (v ∷ vs) r s t = absurd t
  each_result T of P h [] [] (z ∷ zs) vs r s t = absurd s
  each_result T of P h [] (y ∷ ys) zs vs r s t = absurd r
  each_result T of P h (x ∷ xs) [] zs vs r s t = absurd r
  each_result T of P h (x ∷ xs) (y ∷ ys) [] vs r s t = absurd s
  each_result T of P h (x ∷ xs) (y ∷ ys) (z ∷ zs) [] r s t = absurd t
  each_result T of P h (x ∷ xs) (y ∷ ys) (z ∷ zs) (v ∷ vs) r s t = (h x y z v r.0 s.0 t.0, each_result T of P h xs ys zs vs r.1 s.1 t.1)

-- the only answer left
answer_left : (x : PairAnswer) → x ≢ answer.Different → x ≢ answer.Limit → x ≢ answer.NotShown → x ≡ answer.Equal
answer_left answer.Equal d l n = refl
answer_left answer.Different d l n = absurd (d refl)
answer_left answer.NotShown d l n = absurd (n refl)
answer_left answer.Limit d l n = absurd (l refl)

pub all_equal : (results : List PairResult) → NoneIs answer.Different results → NoneIs answer.Limit results → NoneIs answer.NotShown results → All (λ (r : PairResult). r.answer ≡ answer.Equal) results
all_equal results different limit unshown = λ j e inside. answer_left _ (different j e inside) (limit j e inside) (unshown j e inside)

-- none has the answer where there is no first
pub none_of : (g : List Node) (under : List Obligation) (results : List PairResult) (wanted : PairAnswer) (first : Option Difference) → first ≡ None → IsFirst g under wanted results first → NoneIs wanted results
none_of g under results wanted first e k = subst (IsFirst g under wanted results) e k
