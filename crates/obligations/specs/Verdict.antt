-- Which obligation gives the verdict.
use Rattle.std.specs.Prelude.{◌≡◌, ◌≢◌, ℕ, ◌<◌, max, List, fold, slice_get, Option, Some, None}
use Rattle.obligations.specs.outcome.sec_base.PairAnswer.TheVariants as answer
use Rattle.obligations.specs.declared.outcome.verdict.PairResult.{PairResult}
use Rattle.obligations.specs.declared.obligation.Difference.{Difference}
use Rattle.obligations.specs.declared.verdict.VerdictAt.{VerdictAt}
use Rattle.obligations.specs.declared.verdict.VerdictAt.TheVariants as verdict
use Rattle.obligations.specs.Decided.{NoneIs}

-- the result at this place is the first that met the limit
pub record IsLimitAt (results : List PairResult) (place : ℕ) : Type 0 where
  pub result : PairResult
  pub at : slice_get results place ≡ Some result
  pub limit : result.answer ≡ answer.Limit
  pub earlier : (i : ℕ) (r : PairResult) → i < place → slice_get results i ≡ Some r → r.answer ≢ answer.Limit

-- no result met the limit, or the one at this place is the first that did
abbrev pub IsFirstLimit : List PairResult → Option ℕ → Type 0
IsFirstLimit results None = NoneIs answer.Limit results
IsFirstLimit results (Some place) = IsLimitAt results place

-- the first of different, limit and not shown that there is, and equal where there is none
abbrev pub IsVerdictAt : Option Difference → Option Difference → List PairResult → VerdictAt → Type 0
IsVerdictAt different not_shown results verdict.Equal = (different ≡ None) × NoneIs answer.Limit results × (not_shown ≡ None)
IsVerdictAt different not_shown results (verdict.Different d) = different ≡ Some d
IsVerdictAt different not_shown results (verdict.Limit place) = (different ≡ None) × IsLimitAt results place
IsVerdictAt different not_shown results (verdict.NotShown d) = (different ≡ None) × NoneIs answer.Limit results × (not_shown ≡ Some d)

-- the greatest size of the results
abbrev pub greatest_size : List PairResult → ℕ
greatest_size results = fold (λ n (r : PairResult). max n r.size) 0 results
