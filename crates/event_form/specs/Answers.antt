-- What the answers of the event form say of pairs.
use Rattle.std.specs.Prelude.{◌≡◌, ℕ, Bool, List, slice_get, Option, Some}
use Rattle.circuit_theory.specs.Joined.{Either, Left, Right}
use Rattle.circuit_theory.specs.EventFrames.{IsEventSize, IsUnshownFrame, event_pair}
use Rattle.circuit_theory.specs.Frame.{EventSide}
use Rattle.aig.specs.sec_base.PairAnswer.{PairAnswer}
use Rattle.aig.specs.Values.{value}
use Rattle.event_nodes.specs.Nodes.{EventGraphView}
use Rattle.class_search.specs.event_variables.Variables.{variables_of}
use Rattle.sec_setup.specs.declared.ports.pairs.SignalPair.{SignalPair}
use Rattle.obligations.specs.Fits as fits
use Rattle.obligations.specs.declared.outcome.verdict.PairResult.{PairResult}
use Rattle.obligations.specs.pair_decide.Proof.{Proof}
use Rattle.obligations.specs.pair_decide.Query.{Query}
use Rattle.obligations.specs.pair_decide.Queries.{assigned_to}
use Rattle.event_form.specs.Asked.{IsDecisive}

-- What each answer says of a pair, and the proof that stands beside it.
abbrev pub AnswerFits : EventSide (Either ℕ ℕ) → Bool → ℕ → ℕ → ℕ → PairAnswer → Option Proof → Type 0
AnswerFits s cut conflicts p q answer proof = fits.AnswerFits (event_pair s (Left p) (Right q)) (IsDecisive s cut p q) conflicts answer proof

-- the result of a pair: its name, how many event nodes either side reaches, and the answer on both event functions
pub record PairFits (s : EventSide (Either ℕ ℕ)) (cut : Bool) (conflicts : ℕ) (p : SignalPair) (r : PairResult) : Type 0 where
  pub name_is : r.name ≡ p.name
  pub size_is : IsEventSize s (Left p.left.0) (Right p.right.0) r.size
  pub answer_is : AnswerFits s cut conflicts p.left.0 p.right.0 r.answer r.proof

-- The bits of the query at the place are the frame of the pair: it holds exactly the variables of the pair's query, has care for both sides and gives
-- them the values of the query's literals, which differ.
pub record IsFrameOf (s : EventSide (Either ℕ ℕ)) (w : EventGraphView) (p : SignalPair) (queries : List Query) (place : ℕ) (bits : List Bool) : Type 0 where
  pub query : Query
  pub at : slice_get queries place ≡ Some query
  pub shown : IsUnshownFrame s (Left p.left.0) (Right p.right.0) (variables_of w query.vars) bits (value w.graph (assigned_to query.vars bits) query.left.0) (value w.graph (assigned_to query.vars bits) query.right.0)
