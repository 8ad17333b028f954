-- What is found of pairs, in whatever form they are asked.
use Rattle.std.specs.Prelude.{◌≡◌, ◌≢◌, ℕ, ◌<◌, Bool, List, Option, Some, slice_get}
use Rattle.sec_setup.specs.sec_base.PairAnswer.{PairAnswer}
use Rattle.sec_setup.specs.witness_report.PairName.{PairName}
use Rattle.sec_setup.specs.witness_report.Witness.{Witness}
use Rattle.obligations.specs.outcome.Proof.{Proof}
use Rattle.obligations.specs.declared.outcome.verdict.PairResult.{PairResult}

-- The result of a pair: its name, what its size is in the form, and an answer, with the proof beside it, that fits a pair of this size.
pub record ResultFits (name : PairName) (IsSize : ℕ → Type 0) (Fits : ℕ → PairAnswer → Option Proof → Type 0) (result : PairResult) : Type 0 where
  pub name_is : result.name ≡ name
  pub size_is : IsSize result.size
  pub answer_is : Fits result.size result.answer result.proof

-- the first pair with this answer, and what is shown of it
pub record IsFirst {X : Type 0} (wanted : PairAnswer) (Shown : X → PairResult → Type 0) (pairs : List X) (results : List PairResult) : Type 0 where
  pub index : ℕ
  pub place : X
  pub result : PairResult
  pub place_is : slice_get pairs index ≡ Some place
  pub result_is : slice_get results index ≡ Some result
  pub answered : result.answer ≡ wanted
  pub earlier : (i : ℕ) (r : PairResult) → i < index → slice_get results i ≡ Some r → r.answer ≢ wanted
  pub shown : Shown place result

-- The sequence of a pair of this name, over the inputs of these names: in such a cycle the pair has the two values.
pub record IsSequenceOf (name : PairName) (columns : List (List ℕ)) (IsCycle : ℕ → Type 0) (IsWitness : List (List Bool) → ℕ → Bool → Bool → Type 0) (w : Witness) : Type 0 where
  pub named : w.pair ≡ name
  pub names_are : w.stimulus.names ≡ columns
  pub cycle_is : IsCycle w.cycle
  pub witness : IsWitness w.stimulus.rows w.cycle w.left w.right
