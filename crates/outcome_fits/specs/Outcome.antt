-- What it means that what is found of some pairs fits two circuits, in the plain form.
use Rattle.std.specs.Prelude.{◌≡◌, ◌≢◌, ℕ, ◌<◌, Bool, true, false, List, length, Option, Some, slice_get}
use Rattle.std.specs.List.{All, AllZip}
use Rattle.circuit_theory.specs.Circuit.{Circuit}
use Rattle.circuit_theory.specs.Fits.{IsPairDepth, IsWitness}
use Rattle.circuit_theory.specs.Asked.{AreDifferent, plain_pair}
use Rattle.sec_setup.specs.sec_base.PairAnswer.{PairAnswer}
use Rattle.sec_setup.specs.sec_base.PairAnswer.TheVariants as answer
use Rattle.obligations.specs.outcome.Proof.{Proof}
use Rattle.sec_setup.specs.witness_report.Witness.{Witness}
use Rattle.obligations.specs.declared.outcome.verdict.PairResult.{PairResult}
use Rattle.obligations.specs.declared.outcome.verdict.Verdict.{Verdict}
use Rattle.obligations.specs.declared.outcome.verdict.Verdict.TheVariants as verdict
use Rattle.obligations.specs.declared.outcome.verdict.Why.TheVariants as why
use Rattle.obligations.specs.declared.outcome.verdict.LimitAt.{LimitAt}
use Rattle.obligations.specs.declared.outcome.verdict.LimitAt.TheVariants as limit_at
use Rattle.sec_setup.specs.ports.Pairs.{NamedPair}
pub use Rattle.obligations.specs.Decided.{NoneIs}
pub use Rattle.obligations.specs.Verdict.{greatest_size}
use Rattle.obligations.specs.Fits as fits
use Rattle.outcome_fits.specs.Results.{ResultFits, IsFirst, IsSequenceOf}

-- both sides of a pair unfold, to functions that some assignment makes differ
abbrev pub HaveDifferentFunctions : {P Q : Type 0} → Circuit P → Circuit Q → List ℕ → List ℕ → P → Q → Type 0
HaveDifferentFunctions a b left right p q = AreDifferent (plain_pair a b left right p q)

-- how a pair is answered whose functions differ: where latches are cut open it isn't shown that the circuits differ
abbrev pub differing : Bool → PairAnswer
differing false = answer.Different
differing true = answer.NotShown

-- What each answer says of a pair, and the proof that stands beside it. `cut` says that latches are cut open.
abbrev pub AnswerFits : {P Q : Type 0} → Circuit P → Circuit Q → List ℕ → List ℕ → Bool → ℕ → P → Q → PairAnswer → Option Proof → Type 0
AnswerFits a b left right cut conflicts p q result proof = fits.AnswerFits (plain_pair a b left right p q) (cut ≡ false) conflicts result proof

-- the result of a pair: its name, the greater of both depths, and the answer on both functions
abbrev pub PairFits : {P Q : Type 0} → Circuit P → Circuit Q → List ℕ → List ℕ → Bool → ℕ → NamedPair P Q → PairResult → Type 0
PairFits a b left right cut conflicts x result = ResultFits x.name (IsPairDepth a b x.left x.right) (λ size. AnswerFits a b left right cut conflicts x.left x.right) result

-- one result for each of these pairs, in order
abbrev pub PairsFit : {P Q : Type 0} → Circuit P → Circuit Q → List ℕ → List ℕ → Bool → ℕ → List (NamedPair P Q) → List PairResult → Type 0
PairsFit a b left right cut conflicts pairs results = AllZip (PairFits a b left right cut conflicts) pairs results

-- The first pair with this answer, and a sequence of it over the inputs of these names: by an assignment of the variables of both
-- functions that makes them differ, up to 16 variables the least one.
abbrev pub IsFirstOfAnswer : {P Q : Type 0} → Circuit P → Circuit Q → List ℕ → List ℕ → List (List ℕ) → PairAnswer → List (NamedPair P Q) → List PairResult → Witness → Type 0
IsFirstOfAnswer a b left right columns wanted pairs results w =
    IsFirst wanted (λ x r. IsSequenceOf x.name columns (λ t. t ≡ r.size) (IsWitness a b left right x.left x.right (length columns)) w) pairs results

-- no pair is different, and this one is the first at its limit
pub record IsFirstLimit (results : List PairResult) (at : LimitAt) : Type 0 where
  pub index : ℕ
  pub result : PairResult
  pub result_is : slice_get results index ≡ Some result
  pub limit : result.answer ≡ answer.Limit
  pub earlier : (i : ℕ) (r : PairResult) → i < index → slice_get results i ≡ Some r → r.answer ≢ answer.Limit
  pub no_difference : NoneIs answer.Different results
  pub at_is : at ≡ limit_at.Pair result.name

-- the first of different, limit and not shown that some pair has, and equal where every pair is equal; `First` says which pair a sequence is of
abbrev pub VerdictOf : (PairAnswer → Witness → Type 0) → List PairResult → Verdict → Type 0
VerdictOf First results verdict.Equal = All (λ (r : PairResult). r.answer ≡ answer.Equal) results
VerdictOf First results (verdict.Different w) = First answer.Different w
VerdictOf First results (verdict.DifferentFrom w) = ⊥
VerdictOf First results (verdict.Limit at) = IsFirstLimit results at
VerdictOf First results (verdict.NotShown (why.Cut w)) = NoneIs answer.Different results × NoneIs answer.Limit results × First answer.NotShown w
VerdictOf First results (verdict.NotShown (why.Events u)) = ⊥

-- the verdict of pairs as they are asked in the plain form
abbrev pub VerdictFits : {P Q : Type 0} → Circuit P → Circuit Q → List ℕ → List ℕ → List (List ℕ) → List (NamedPair P Q) → List PairResult → Verdict → Type 0
VerdictFits a b left right columns pairs results v = VerdictOf (λ wanted w. IsFirstOfAnswer a b left right columns wanted pairs results w) results v
