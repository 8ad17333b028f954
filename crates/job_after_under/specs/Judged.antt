-- What is judged of two nets behind the rows of a stimulus, under a third.
use Rattle.std.specs.Prelude.{◌≡◌, ◌⊎◌, ℕ, Bool, List, [], ◌∷◌, length, Option, Some}
use Rattle.circuit_theory.specs.Circuit.{Circuit}
use Rattle.circuit_theory.specs.Interface.{shared_inputs}
use Rattle.circuit_theory.specs.declared.Side.{Side}
use Rattle.flat_net.specs.View.{NetView, circuit_of, ports_of}
use Rattle.pair_decide.specs.declared.query.Proof.{Proof}
use Rattle.witness_report.specs.declared.witness.Witness.{Witness}
use Rattle.sec_setup.specs.Matching.{InterfacesMatch}
use Rattle.assume_queries.specs.assume_sequences.assume_taken.Taken.{IsUndecidedBy}
use Rattle.job_base.specs.declared.finding.Judgement.{Judgement}
use Rattle.job_base.specs.declared.finding.Judgement.TheVariants as judgement
use Rattle.cycle_search.specs.declared.found.Searched.{Searched}
use Rattle.cycle_search.specs.declared.found.SearchVerdict.TheVariants as verdict
use Rattle.cycle_under.specs.Searches.{AreSearchedUnder}
use Rattle.restart.specs.Agreement.{Each, UpTo, Before}
use Rattle.restart.specs.Sequence.{IsShownBehind}
use Rattle.job_after.specs.Judged.{Behind, judgement_of, proofs_of, GoesOnAsFound}
use Rattle.restart.specs.Behind.{IsBegun}
use Rattle.job_after_under.specs.Report.{behind_text, undecided_behind}
use Rattle.job_after_under.specs.Runs.{AgreeBehindWhereMet, SequenceMeetsFrom}

-- The sequence begins with the rows, makes the circuits of both nets differ in its last cycle, which comes behind the rows, and meets the third
-- in each cycle behind them.
pub record IsShownUnder (a b c : NetView) (names : List (List ℕ)) (rows : List (List Bool)) (w : Witness) : Type 0 where
  pub shown : IsShownBehind a b names rows w
  pub meets : SequenceMeetsFrom (length rows) (circuit_of c) w.stimulus w.cycle

-- each sequence that goes on as the difference that was found meets the assumption from there on
abbrev pub GoesOnMeeting : {R : Type 0} → Circuit R → Searched → Type 0
GoesOnMeeting c s = (count : ℕ) (w : Witness) → GoesOnAsFound count s.verdict w → SequenceMeetsFrom count c w.stimulus w.cycle

-- both nets begin so behind the rows, and this was found of them there
pub record IsBehindUnder (a b c : NetView) (names : List (List ℕ)) (rows : List (List Bool)) (cycles conflicts : ℕ) (h : Behind) : Type 0 where
  pub left_begun : IsBegun a names rows h.left_known h.left
  pub right_begun : IsBegun b names rows h.right_known h.right
  pub last_is : h.cycles ≡ cycles
  pub searched : AreSearchedUnder h.left h.right c cycles conflicts h.made

-- What is judged and written of a search, of runs that begin by the rows and meet the assumption in each cycle behind them. Where no
-- difference is shown: equal says that the outputs agree in every cycle there; no difference, that they do in each cycle up to the last; one
-- that isn't shown, that they do in each cycle before it. One that is shown makes the named outputs differ in all runs that read its sequence,
-- which begins with the rows and meets the assumption behind them.
pub record IsJudgedSearch (a b c : NetView) (names : List (List ℕ)) (rows : List (List Bool)) (cycles conflicts : ℕ) (j : Judgement) (proofs : List Proof) (text : List ℕ) : Type 0 where
  pub of : Behind
  pub is : IsBehindUnder a b c names rows cycles conflicts of
  pub agree : of.made.verdict ≡ verdict.Equal → AgreeBehindWhereMet names rows Each (circuit_of c) (circuit_of a) (circuit_of b)
  pub agree_up_to : (stopped : Option Side) → of.made.verdict ≡ verdict.NoDifference stopped → AgreeBehindWhereMet names rows (UpTo of.made.last) (circuit_of c) (circuit_of a) (circuit_of b)
  pub agree_before : AgreeBehindWhereMet names rows (Before of.made.last) (circuit_of c) (circuit_of a) (circuit_of b)
  pub differ : (w : Witness) → of.shown ≡ Some w → IsShownUnder a b c names rows w
  pub judgement_is : j ≡ judgement_of of.made.verdict of.shown
  pub proofs_are : proofs ≡ proofs_of of.made.pairs
  pub text_is : text ≡ behind_text of.left of.right is.searched.assumed.shape.output.name cycles conflicts (length rows) of.left_known of.right_known of.shown of.made

-- Whether some row of inputs meets the assumption wasn't decided: that is the limit, and nothing was compared.
pub record IsJudgedUndecided (a b c : NetView) (names : List (List ℕ)) (rows : List (List Bool)) (conflicts : ℕ) (j : Judgement) (proofs : List Proof) (text : List ℕ) : Type 0 where
  pub left_known : List (Option Bool)
  pub right_known : List (Option Bool)
  pub left : NetView
  pub right : NetView
  pub left_begun : IsBegun a names rows left_known left
  pub right_begun : IsBegun b names rows right_known right
  pub matches : InterfacesMatch left right
  pub proof : Proof
  pub is : IsUndecidedBy (shared_inputs (ports_of left) (ports_of right)) c conflicts proof
  pub judgement_is : j ≡ judgement.Limit
  pub proofs_are : proofs ≡ proof ∷ []
  pub text_is : text ≡ undecided_behind left right is.assumed.shape.output.name conflicts (length rows) left_known right_known

abbrev pub IsJudged : NetView → NetView → NetView → List (List ℕ) → List (List Bool) → ℕ → ℕ → Judgement → List Proof → List ℕ → Type 0
IsJudged a b c names rows cycles conflicts j proofs text = IsJudgedSearch a b c names rows cycles conflicts j proofs text ⊎ IsJudgedUndecided a b c names rows conflicts j proofs text
