-- What is judged of two nets behind the rows of a stimulus.
use Rattle.std.specs.Prelude.{◌≡◌, ℕ, Bool, List, length, Option, Some, None}
use Rattle.std.specs.List.{filter_map}
use Rattle.circuit_theory.specs.declared.Side.{Side}
use Rattle.flat_net.specs.View.{NetView, circuit_of}
use Rattle.pair_decide.specs.declared.query.Proof.{Proof}
use Rattle.witness_report.specs.declared.witness.Witness.{Witness}
use Rattle.obligations.specs.declared.outcome.verdict.PairResult.{PairResult}
use Rattle.job_base.specs.declared.finding.Judgement.{Judgement}
use Rattle.job_base.specs.declared.finding.Judgement.TheVariants as judgement
use Rattle.cycle_search.specs.declared.found.Searched.{Searched}
use Rattle.cycle_search.specs.declared.found.SearchVerdict.{SearchVerdict}
use Rattle.cycle_search.specs.declared.found.SearchVerdict.TheVariants as verdict
use Rattle.cycle_search.specs.Searches.{AreSearched}
use Rattle.restart.specs.Behind.{IsBegun}
use Rattle.restart.specs.Agreement.{AgreeBehind, Each, UpTo, Before}
use Rattle.job_after.specs.Last.{IsLast}
use Rattle.job_after.specs.Report.{after_text}
use Rattle.restart.specs.Sequence.{IsShownBehind, GoesOnAs}

-- the judgement: a difference that isn't shown is none
abbrev pub judgement_of : SearchVerdict → Option Witness → Judgement
judgement_of v (Some w) = judgement.Different
judgement_of verdict.Equal None = judgement.Equal
judgement_of (verdict.NoDifference stopped) None = judgement.NotShown
judgement_of (verdict.Different w) None = judgement.NotShown
judgement_of (verdict.Limit name) None = judgement.Limit

-- the proofs of the pairs that met the limit, in their order
abbrev pub proofs_of : List PairResult → List Proof
proofs_of pairs = filter_map (λ (p : PairResult). p.proof) pairs

-- behind so many rows the sequence of a difference goes on as the one that was found
abbrev pub GoesOnAsFound : ℕ → SearchVerdict → Witness → Type 0
GoesOnAsFound count (verdict.Different found) w = GoesOnAs count found.witness.stimulus w
GoesOnAsFound count other w = ⊥

-- both nets as they begin behind the rows, what is known of their latches there, the last cycle that was to be compared, what was found of
-- them, and the difference that is shown
pub record Behind : Type 0 where
  pub left_known : List (Option Bool)
  pub right_known : List (Option Bool)
  pub left : NetView
  pub right : NetView
  pub cycles : ℕ
  pub made : Searched
  pub shown : Option Witness

-- This is so behind these rows. Without a wanted last cycle no latch lies on a cycle, and a search that finds no difference and doesn't end
-- with equal stopped because a circuit is too large in the next cycle.
pub record IsBehind (a b : NetView) (names : List (List ℕ)) (rows : List (List Bool)) (wanted : Option ℕ) (conflicts : ℕ) (h : Behind) : Type 0 where
  pub left_begun : IsBegun a names rows h.left_known h.left
  pub right_begun : IsBegun b names rows h.right_known h.right
  pub last_is : IsLast h.left h.right wanted h.cycles
  pub searched : AreSearched h.left h.right h.cycles conflicts h.made
  pub decided : wanted ≡ None → h.made.verdict ≡ verdict.NoDifference None → ⊥

-- What is judged and written. Where no difference is shown: equal says that the outputs agree in every cycle behind the rows; no
-- difference, that they do in each cycle up to the last; one that isn't shown, that they do in each cycle before it. One that is shown
-- makes the named outputs differ in all runs that read its sequence, which begins with the rows.
pub record IsJudged (a b : NetView) (names : List (List ℕ)) (rows : List (List Bool)) (wanted : Option ℕ) (conflicts : ℕ) (j : Judgement) (proofs : List Proof) (text : List ℕ) : Type 0 where
  pub of : Behind
  pub is : IsBehind a b names rows wanted conflicts of
  pub agree : of.made.verdict ≡ verdict.Equal → AgreeBehind names rows Each (circuit_of a) (circuit_of b)
  pub agree_up_to : (stopped : Option Side) → of.made.verdict ≡ verdict.NoDifference stopped → AgreeBehind names rows (UpTo of.made.last) (circuit_of a) (circuit_of b)
  pub agree_before : AgreeBehind names rows (Before of.made.last) (circuit_of a) (circuit_of b)
  pub differ : (w : Witness) → of.shown ≡ Some w → IsShownBehind a b names rows w
  pub judgement_is : j ≡ judgement_of of.made.verdict of.shown
  pub proofs_are : proofs ≡ proofs_of of.made.pairs
  pub text_is : text ≡ after_text of.left of.right of.cycles conflicts (length rows) of.left_known of.right_known of.shown of.made
