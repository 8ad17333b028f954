-- What it means that what is found of some pairs fits two circuits whose runs begin with the latches' initial values.
use Rattle.std.specs.Prelude.{◌≡◌, ◌≢◌, ℕ, ◌<◌, ◌≤◌, List, length, Option, Some, slice_get}
use Rattle.std.specs.List.{All}
use Rattle.circuit_theory.specs.Circuit.{Circuit}
use Rattle.circuit_theory.specs.Fits.{IsPairDepth}
use Rattle.circuit_theory.specs.Asked.{AskedPair, AreEqual, AreDifferent}
use Rattle.circuit_laws.specs.reset_laws.Reset.{IsResetWitness, reset_pair}
use Rattle.sec_setup.specs.sec_base.PairAnswer.{PairAnswer}
use Rattle.sec_setup.specs.sec_base.PairAnswer.TheVariants as answer
use Rattle.obligations.specs.outcome.Proof.{Proof}
use Rattle.obligations.specs.declared.outcome.verdict.PairResult.{PairResult}
use Rattle.sec_setup.specs.witness_report.PairName.{PairName}
use Rattle.sec_setup.specs.ports.Pairs.{NamedPair}
pub use Rattle.obligations.specs.Decided.{NoneIs}
pub use Rattle.obligations.specs.Verdict.{greatest_size}
use Rattle.obligations.specs.Fits.{AreEqualBefore, AnswersFit}
use Rattle.obligations.specs.declared.outcome.verdict.LimitAt.TheVariants as limit_at
use Rattle.obligations.specs.declared.outcome.verdict.ResetWitness.{ResetWitness}
use Rattle.obligations.specs.declared.outcome.verdict.Verdict.{Verdict}
use Rattle.obligations.specs.declared.outcome.verdict.Verdict.TheVariants as verdict
use Rattle.outcome_fits.specs.Results.{ResultFits, IsFirst, IsSequenceOf}

-- Two circuits with the numbers of their inputs' and their latches' variables, and the names of the inputs' numbers.
pub record Numbered : Type 0 where
  pub a : Circuit ℕ
  pub b : Circuit ℕ
  pub left : List ℕ
  pub right : List ℕ
  pub left_base : ℕ
  pub right_base : ℕ
  pub columns : List (List ℕ)

-- a pair as it is asked in the cycle
abbrev pub pair_at : Numbered → ℕ → ℕ → ℕ → AskedPair ℕ
pair_at n p q t = reset_pair n.a n.b n.left n.right n.left_base n.right_base p q t

-- both functions of a pair agree in the cycle under each assignment
abbrev pub AgreeAt : Numbered → ℕ → ℕ → ℕ → Type 0
AgreeAt n p q t = AreEqual (pair_at n p q t)

-- they do in each cycle before this one
abbrev pub AgreeBefore : Numbered → ℕ → ℕ → ℕ → Type 0
AgreeBefore n p q t = AreEqualBefore (pair_at n p q) t

-- some assignment makes them differ in the cycle
abbrev pub DifferAt : Numbered → ℕ → ℕ → ℕ → Type 0
DifferAt n p q t = AreDifferent (pair_at n p q t)

-- What each answer says of a pair of this depth, by the first of its cycles up to the depth in which it isn't equal.
abbrev pub AnswerFits : Numbered → ℕ → ℕ → ℕ → ℕ → PairAnswer → Option Proof → Type 0
AnswerFits n conflicts p q depth result proof = AnswersFit (pair_at n p q) conflicts depth result proof

-- the result of a pair: its name, the greater of both depths, and the answer
abbrev pub PairFits : Numbered → ℕ → NamedPair ℕ ℕ → PairResult → Type 0
PairFits n conflicts x result = ResultFits x.name (IsPairDepth n.a n.b x.left x.right) (AnswerFits n conflicts x.left x.right) result

-- The first pair that is different, the first cycle in which it can differ, and a sequence with two power-ups that make it differ there:
-- by an assignment of the variables of both functions, up to 16 variables the least one.
abbrev pub IsFirstDifference : Numbered → List (NamedPair ℕ ℕ) → List PairResult → ResetWitness → Type 0
IsFirstDifference n pairs results w =
    IsFirst answer.Different (λ x r. IsSequenceOf x.name n.columns (λ t. (t ≤ r.size) × AgreeBefore n x.left x.right t)
    (λ rows t left right. IsResetWitness n.a n.b n.left n.right n.left_base n.right_base x.left x.right (length n.columns) rows w.left_power w.right_power t left right) w.witness) pairs results

-- no pair is different, and this one is the first at its limit
pub record IsFirstLimit (results : List PairResult) (name : PairName) : Type 0 where
  pub index : ℕ
  pub result : PairResult
  pub result_is : slice_get results index ≡ Some result
  pub limit : result.answer ≡ answer.Limit
  pub earlier : (i : ℕ) (r : PairResult) → i < index → slice_get results i ≡ Some r → r.answer ≢ answer.Limit
  pub no_difference : NoneIs answer.Different results
  pub named : name ≡ result.name

-- the first of different and limit that some pair has, and equal where every pair is equal; `First` says which pair a sequence is of
abbrev pub ResetVerdictOf : (ResetWitness → Type 0) → List PairResult → Verdict → Type 0
ResetVerdictOf First results verdict.Equal = All (λ (r : PairResult). r.answer ≡ answer.Equal) results
ResetVerdictOf First results (verdict.Different w) = ⊥
ResetVerdictOf First results (verdict.DifferentFrom w) = First w
ResetVerdictOf First results (verdict.NotShown reason) = ⊥
ResetVerdictOf First results (verdict.Limit (limit_at.Pair name)) = IsFirstLimit results name
ResetVerdictOf First results (verdict.Limit other) = ⊥
