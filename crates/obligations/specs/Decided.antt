-- What is found of all obligations.
use Rattle.std.specs.Prelude.{◌≡◌, ◌≢◌, ℕ, ◌<◌, Bool, true, false, List, slice_get, Option, Some, None}
use Rattle.std.specs.List.{All, AllZip}
use Rattle.obligations.specs.outcome.aig.Node.{Node}
use Rattle.obligations.specs.outcome.sec_base.PairAnswer.{PairAnswer}
use Rattle.obligations.specs.outcome.sec_base.PairAnswer.TheVariants as answer
use Rattle.obligations.specs.outcome.witness_report.PairName.{PairName}
use Rattle.obligations.specs.outcome.Proof.{Proof}
use Rattle.obligations.specs.outcome.Queries.{IsSame}
use Rattle.obligations.specs.declared.outcome.verdict.PairResult.{PairResult}
use Rattle.obligations.specs.declared.obligation.Obligation.{Obligation}
use Rattle.obligations.specs.declared.obligation.Difference.{Difference}
use Rattle.obligations.specs.declared.decision.Decided.{Decided}
use Rattle.obligations.specs.declared.found.Found.{Found}
use Rattle.obligations.specs.declared.found.Found.TheVariants as found
use Rattle.obligations.specs.Found.{IsDifferenceOf, Differ, IsLimitOf, differing}

-- What each answer says of an obligation, and the proof that stands beside it: one at the limit alone.
abbrev pub AnswerIs : List Node → ℕ → Obligation → PairAnswer → Option Proof → Type 0
AnswerIs g conflicts o answer.Equal None = All (IsSame g) o.queries
AnswerIs g conflicts o answer.Equal (Some proof) = ⊥
AnswerIs g conflicts o answer.Different None = (o.decisive ≡ true) × Differ g o.queries
AnswerIs g conflicts o answer.Different (Some proof) = ⊥
AnswerIs g conflicts o answer.NotShown None = (o.decisive ≡ false) × Differ g o.queries
AnswerIs g conflicts o answer.NotShown (Some proof) = ⊥
AnswerIs g conflicts o answer.Limit None = ⊥
AnswerIs g conflicts o answer.Limit (Some proof) = IsLimitOf g conflicts o.queries proof

-- the result of an obligation
pub record IsAnswered (g : List Node) (conflicts : ℕ) (o : Obligation) (r : PairResult) : Type 0 where
  pub name_is : r.name ≡ o.name
  pub size_is : r.size ≡ o.size
  pub answer_is : AnswerIs g conflicts o r.answer r.proof

-- no result has this answer
abbrev pub NoneIs : PairAnswer → List PairResult → Type 0
NoneIs wanted results = All (λ (r : PairResult). r.answer ≢ wanted) results

-- the first obligation with this answer, and where it differs
pub record IsFirstOf (g : List Node) (asked : List Obligation) (wanted : PairAnswer) (results : List PairResult) (d : Difference) : Type 0 where
  pub obligation : Obligation
  pub result : PairResult
  pub asked_at : slice_get asked d.pair ≡ Some obligation
  pub result_at : slice_get results d.pair ≡ Some result
  pub answered : result.answer ≡ wanted
  pub earlier : (i : ℕ) (r : PairResult) → i < d.pair → slice_get results i ≡ Some r → r.answer ≢ wanted
  pub differs : IsDifferenceOf g obligation.queries d.query d.bits

-- no obligation has this answer, or this is where the first one differs that does
abbrev pub IsFirst : List Node → List Obligation → PairAnswer → List PairResult → Option Difference → Type 0
IsFirst g asked wanted results None = NoneIs wanted results
IsFirst g asked wanted results (Some d) = IsFirstOf g asked wanted results d

-- one result for each obligation, and the first difference of each kind
pub record HaveDecided (g : List Node) (conflicts : ℕ) (asked : List Obligation) (d : Decided) : Type 0 where
  pub results : AllZip (IsAnswered g conflicts) asked d.results
  pub different : IsFirst g asked answer.Different d.results d.different
  pub not_shown : IsFirst g asked answer.NotShown d.results d.not_shown

-- the result by what was found of the queries, and where they differ, if they do
abbrev pub IsAnswerOf : PairName → ℕ → Bool → ℕ → Found → PairResult → Option Difference → Type 0
IsAnswerOf name size decisive pair found.Same r d = (r ≡ record { name = name; size = size; answer = answer.Equal; proof = None }) × (d ≡ None)
IsAnswerOf name size decisive pair (found.Differs query bits) r d = (r ≡ record { name = name; size = size; answer = differing decisive; proof = None }) × (d ≡ Some (record { pair = pair; query = query; bits = bits }))
IsAnswerOf name size decisive pair (found.Limit proof) r d = (r ≡ record { name = name; size = size; answer = answer.Limit; proof = Some proof }) × (d ≡ None)

-- the first, or the new one where there is none
abbrev pub first_of : Option Difference → Option Difference → Option Difference
first_of None new = new
first_of (Some d) new = Some d

-- a difference is put where the first of its kind is kept
abbrev pub IsPut : Bool → Option Difference → Decided → Decided → Type 0
IsPut true new old made = (made.different ≡ first_of old.different new) × (made.not_shown ≡ old.not_shown)
IsPut false new old made = (made.different ≡ old.different) × (made.not_shown ≡ first_of old.not_shown new)
