-- What is judged of two nets by ties of their signals behind the rows of a stimulus, under a third.
use Rattle.std.specs.Prelude.{◌≡◌, ◌⊎◌, ℕ, Bool, List, length, None}
use Rattle.flat_net.specs.View.{NetView, circuit_of}
use Rattle.pair_decide.specs.declared.query.Proof.{Proof}
use Rattle.job_base.specs.declared.finding.Judgement.{Judgement}
use Rattle.job_under.specs.signal_induct.Tied.{first_apart}
use Rattle.restart.specs.Agreement.{Each}
use Rattle.job_under.specs.job_begun.Judged.{Begun, AreBegun, text_behind}
use Rattle.job_under.specs.ties.Judged.{AreJudgedTied}
use Rattle.job_after_under.specs.Judged.{IsJudgedUndecided}
use Rattle.job_after_under.specs.Runs.{AgreeBehindWhereMet, TiesHoldWhereMet}

-- What is judged and told of the nets that begin behind the rows is written behind what isn't known there. In any two runs with equal inputs that
-- begin by the rows and meet the third in each cycle behind them, whatever both power up with, the ties hold in each of these cycles, and where
-- they give each output, so do the outputs agree.
pub record AreJudgedBehind (a b c : NetView) (names : List (List ℕ)) (rows : List (List Bool)) (j : Judgement) (proofs : List Proof) (text : List ℕ) : Type 0 where
  pub of : Begun
  pub is : AreBegun a b names rows of
  pub told : List ℕ
  pub judged : AreJudgedTied of.left of.right c j proofs told
  pub hold : TiesHoldWhereMet names rows (circuit_of c) (circuit_of a) (circuit_of b) (length a.drivers) judged.made.ties.anchors.items
  pub agree : first_apart judged.made.pairs ≡ None → AgreeBehindWhereMet names rows Each (circuit_of c) (circuit_of a) (circuit_of b)
  pub text_is : text ≡ text_behind (length rows) of told

-- that, or that it wasn't decided whether some inputs meet the third
abbrev pub AreJudged : ℕ → NetView → NetView → NetView → List (List ℕ) → List (List Bool) → Judgement → List Proof → List ℕ → Type 0
AreJudged conflicts a b c names rows j proofs text = AreJudgedBehind a b c names rows j proofs text ⊎ IsJudgedUndecided a b c names rows conflicts j proofs text
