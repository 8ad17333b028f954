-- What the answers of the event form under an assumption say of pairs.
use Rattle.std.specs.Prelude.{◌≡◌, ℕ, Bool, Option}
use Rattle.circuit_theory.specs.Joined.{Either, Left, Right}
use Rattle.circuit_theory.specs.EventFrames.{IsEventSize, event_pair}
use Rattle.circuit_theory.specs.Frame.{EventSide}
use Rattle.sec_base.specs.declared.basics.PairAnswer.{PairAnswer}
use Rattle.sec_setup.specs.declared.ports.pairs.SignalPair.{SignalPair}
use Rattle.obligations.specs.Fits.{AnswerFits}
use Rattle.obligations.specs.declared.outcome.verdict.PairResult.{PairResult}
use Rattle.obligations.specs.outcome.pair_decide.Proof.{Proof}
use Rattle.event_form.specs.Asked.{IsDecisive}
use Rattle.assume_laws.specs.Assume.{Assumption, under}

-- What each answer says of a pair, and the proof that stands beside it.
abbrev pub AnswerFitsUnder : Assumption → EventSide (Either ℕ ℕ) → Bool → ℕ → ℕ → ℕ → PairAnswer → Option Proof → Type 0
AnswerFitsUnder c s cut conflicts p q answer proof = AnswerFits (under c (event_pair s (Left p) (Right q))) (IsDecisive s cut p q) conflicts answer proof

-- the result of a pair: its name, how many event nodes either side reaches, and the answer on both event functions
pub record PairFitsUnder (c : Assumption) (s : EventSide (Either ℕ ℕ)) (cut : Bool) (conflicts : ℕ) (p : SignalPair) (r : PairResult) : Type 0 where
  pub name_is : r.name ≡ p.name
  pub size_is : IsEventSize s (Left p.left.0) (Right p.right.0) r.size
  pub answer_is : AnswerFitsUnder c s cut conflicts p.left.0 p.right.0 r.answer r.proof
