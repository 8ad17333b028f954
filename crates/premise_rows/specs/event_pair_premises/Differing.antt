-- Two circuits that show different inputs, as the event form compares them: their event graph, the query of their pair, and its answers.
use Rattle.std.specs.Prelude.{ℕ, Bool, true, false, List, [], ◌∷◌, ◌++◌}
use Rattle.circuit_theory.specs.Joined.{Left, Right}
use Rattle.circuit_theory.specs.Query.{Variable}
use Rattle.circuit_theory.specs.EventFrames.{IsUnshownFrame}
use Rattle.witness_report.specs.declared.witness.PairName.TheVariants as pair
use Rattle.sec_base.specs.declared.basics.PairAnswer.TheVariants as answer
use Rattle.std.specs.Prelude.{codes}
use Rattle.event_nodes.specs.aig.Node.{Node}
use Rattle.event_nodes.specs.aig.Node.TheVariants.{Constant, Input, And}
use Rattle.event_nodes.specs.Nodes.{EventGraphView, IsEventGraph, GrowsEvents}
use Rattle.pair_decide.specs.declared.query.Query.{Query}
use Rattle.pair_decide.specs.Answers.{IsDifference}
use Rattle.pair_decide.specs.Queries.{IsQuery}
use Rattle.obligations.specs.declared.obligation.Obligation.{Obligation}
use Rattle.obligations.specs.declared.outcome.verdict.PairResult.{PairResult}
use Rattle.obligations.specs.Decided.{IsAnswered}
use Rattle.obligations.specs.Found.{IsDifferenceOf}
use Rattle.edbf_unfold.specs.class_queries.Enables.{both_of}
use Rattle.edbf_unfold.specs.class_queries.Laws.{AreKept}
use Rattle.event_form.specs.Answers.{PairFits, IsFrameOf}
use Rattle.event_form.specs.Asked.{IsAskedOf}
use Rattle.event_form.specs.event_agreement.Queries.{AsksEventPair}
use Rattle.event_form.specs.event_agreement.Laws.{IsFrameDifference}
use Rattle.premise_rows.specs.event_outcome_samples.Different.{a_events, b_events, y_pair, y_result}

-- two variables: a and b at the root
abbrev pub two_inputs : List Node
two_inputs = Constant ∷ Input 0 ∷ Input 1 ∷ []

abbrev pub at_root : EventGraphView
at_root = record { graph = two_inputs; children = []; places = (0, 0) ∷ (1, 0) ∷ [] }

-- with their and behind
abbrev pub with_and : EventGraphView
with_and = record at_root { graph = two_inputs ++ And (record { 0 = 2 }) (record { 0 = 4 }) ∷ [] }

-- is a the same as b? The care is 1, since no latch is there.
abbrev pub a_and_b : Query
a_and_b = record { left = record { 0 = 2 }; right = record { 0 = 4 }; care = record { 0 = 1 }; vars = 0 ∷ 1 ∷ [] }

-- what is asked of the pair: it reaches the root alone, and a difference shows that the circuits differ or, where latches were cut open, doesn't
abbrev pub y_asked : Bool → Obligation
y_asked decisive = record { name = pair.Output (codes "y"); size = 1; decisive = decisive; queries = a_and_b ∷ [] }

abbrev pub y_not_shown : PairResult
y_not_shown = record y_result { answer = answer.NotShown }

-- a is 1 and b is 0
abbrev pub a_alone : List Bool
a_alone = true ∷ false ∷ []

abbrev pub a_then_b : List (Variable (List ℕ))
a_then_b = record { input = 0; at = [] } ∷ record { input = 1; at = [] } ∷ []

-- The query is that of the pair, and stays it in a later graph. Its least difference has a alone set. With no latch cut open the pair is answered
-- as different, and with one cut open as not shown. So the bits are a frame with care for both sides, 1 in A and 0 in B, and the answers fit.
pub record DifferencesMeetPremises : Type 0 where
  pub kept : AreKept a_events b_events at_root
  pub later : IsEventGraph with_and
  pub grows : GrowsEvents at_root with_and
  pub asks : AsksEventPair (both_of a_events b_events) at_root (Left 0) (Right 1) a_and_b
  pub differs : IsDifference two_inputs a_and_b a_alone
  pub asked : IsAskedOf (both_of a_events b_events) at_root false y_pair (y_asked true)
  pub asked_cut : IsAskedOf (both_of a_events b_events) at_root true y_pair (y_asked false)
  pub answered : (conflicts : ℕ) → IsAnswered two_inputs conflicts (y_asked true) y_result
  pub answered_cut : (conflicts : ℕ) → IsAnswered two_inputs conflicts (y_asked false) y_not_shown
  pub found : IsDifferenceOf two_inputs (a_and_b ∷ []) 0 a_alone
  pub is_query : IsQuery two_inputs a_and_b
  pub asks_later : AsksEventPair (both_of a_events b_events) with_and (Left 0) (Right 1) a_and_b
  pub frame : IsUnshownFrame (both_of a_events b_events) (Left 0) (Right 1) a_then_b a_alone true false
  pub least : IsFrameDifference (both_of a_events b_events) at_root (Left 0) (Right 1) a_and_b a_alone
  pub frame_of_pair : IsFrameOf (both_of a_events b_events) at_root y_pair (a_and_b ∷ []) 0 a_alone
  pub fits : (conflicts : ℕ) → PairFits (both_of a_events b_events) false conflicts y_pair y_result
  pub fits_cut : (conflicts : ℕ) → PairFits (both_of a_events b_events) true conflicts y_pair y_not_shown
