-- What is judged of two nets by an induction over cycles behind the rows of a stimulus.
use Rattle.restart.specs.Behind.{IsBegun}
use Rattle.std.specs.Prelude.{◌≡◌, ℕ, Bool, true, false, List, [], ◌++◌, length, Option}
use Rattle.flat_net.specs.View.{NetView, circuit_of}
use Rattle.pair_decide.specs.declared.query.Proof.{Proof}
use Rattle.job_base.specs.declared.finding.Judgement.{Judgement}
use Rattle.job_base.specs.declared.finding.Judgement.TheVariants as judgement
use Rattle.sec_jobs.specs.job_induct.induct_meaning.Judged as blocks
use Rattle.job_signals.specs.Judged as ties
use Rattle.restart.specs.Agreement.{AgreeBehind, Each}
use Rattle.job_after.specs.Report.{begun_text}

-- both nets as they begin behind the rows, and what is known of their latches there
pub record Begun : Type 0 where
  pub left_known : List (Option Bool)
  pub right_known : List (Option Bool)
  pub left : NetView
  pub right : NetView

-- this is so behind these rows
pub record AreBegun (a b : NetView) (names : List (List ℕ)) (rows : List (List Bool)) (h : Begun) : Type 0 where
  pub left_begun : IsBegun a names rows h.left_known h.left
  pub right_begun : IsBegun b names rows h.right_known h.right

-- the report: what isn't known behind the rows, and what is told of the nets that begin there
abbrev pub text_behind : ℕ → Begun → List ℕ → List ℕ
text_behind rows h told = begun_text h.left h.right rows h.left_known h.right_known ++ told

-- this is judged and told of two nets from their initial values: by ties of their signals, or by blocks of their latches
abbrev pub IsTold : Bool → ℕ → NetView → NetView → Judgement → List Proof → List ℕ → Type 0
IsTold true conflicts l r j proofs told = (proofs ≡ []) × ties.IsJudged l r j told
IsTold false conflicts l r j proofs told = blocks.IsJudged l r conflicts j proofs told

-- What is judged and written: what is judged of the nets that begin behind the rows. Where that is equal, the outputs agree in every cycle
-- behind the rows.
pub record IsJudged (signals : Bool) (conflicts : ℕ) (a b : NetView) (names : List (List ℕ)) (rows : List (List Bool)) (j : Judgement) (proofs : List Proof) (text : List ℕ) : Type 0 where
  pub of : Begun
  pub is : AreBegun a b names rows of
  pub told : List ℕ
  pub judged : IsTold signals conflicts of.left of.right j proofs told
  pub agree : j ≡ judgement.Equal → AgreeBehind names rows Each (circuit_of a) (circuit_of b)
  pub text_is : text ≡ text_behind (length rows) of told
