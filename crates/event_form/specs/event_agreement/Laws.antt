-- What answers to the queries of pairs say of both circuits. Each law is the contract of a function of this crate.
use Rattle.std.specs.Prelude.{◌≡◌, ℕ, Bool, List, []}
use Rattle.circuit_theory.specs.declared.Mode.TheVariants.{Event}
use Rattle.circuit_theory.specs.Agree.{IsPair, Agree, AgreeOnward, IsMinimalCut}
use Rattle.circuit_theory.specs.Circuit.{Circuit}
use Rattle.circuit_theory.specs.Depth.{LatchesHaveDepths}
use Rattle.circuit_theory.specs.Joined.{Either, Left, Right}
use Rattle.circuit_theory.specs.Net.{IsNet, HasDistinctNames}
use Rattle.circuit_theory.specs.Query as frame_query
use Rattle.circuit_theory.specs.Run.{IsEnabled}
use Rattle.circuit_theory.specs.Tree.{AreNumbered}
use Rattle.circuit_theory.specs.Classes.{HasClasses}
use Rattle.circuit_theory.specs.EventFits.{HaveEqualEvents}
use Rattle.circuit_theory.specs.EventFrames.{IsUnshownFrame, IsEventDifference, frame_of}
use Rattle.circuit_theory.specs.Frame.{EventSide}
use Rattle.class_search.specs.flat_net.Cut.{IsCutCircuit}
use Rattle.class_search.specs.flat_net.View.{circuit_of}
use Rattle.class_search.specs.aig.Values.{value}
use Rattle.event_nodes.specs.Nodes.{EventGraphView, IsEventGraph, GrowsEvents}
use Rattle.event_nodes.specs.View.{EventCircuitView}
use Rattle.class_search.specs.event_variables.Variables.{variables_of}
use Rattle.edbf_unfold.specs.class_queries.Enables.{both_of}
use Rattle.edbf_unfold.specs.class_queries.Laws.{AreKept}
use Rattle.class_search.specs.pair_decide.Query.{Query}
use Rattle.class_search.specs.pair_decide.Answers.{IsDifference}
use Rattle.class_search.specs.pair_decide.Queries.{IsQuery, IsSame, assigned_to}
use Rattle.event_form.specs.event_agreement.Queries.{AsksEventPair}

-- The query of a pair is one over the event graph.
abbrev pub PairsAreQueries : Type 0
PairsAreQueries = (s : EventSide (Either ℕ ℕ)) (w : EventGraphView) (p q : Either ℕ ℕ) (query : Query) → IsEventGraph w → AsksEventPair s w p q query → IsQuery w.graph query

-- It stays the query of the pair while the event graph grows.
abbrev pub PairQueriesGrow : Type 0
PairQueriesGrow = (s : EventSide (Either ℕ ℕ)) (w x : EventGraphView) (p q : Either ℕ ℕ) (query : Query) → IsEventGraph w → IsEventGraph x → GrowsEvents w x → AsksEventPair s w p q query → AsksEventPair s x p q query

-- Where its sides agree wherever its care holds, the event functions agree in each frame with care for both.
abbrev pub SameIsEqualEvents : Type 0
SameIsEqualEvents = (s : EventSide (Either ℕ ℕ)) (w : EventGraphView) (p q : Either ℕ ℕ) (query : Query) → IsEventGraph w → AsksEventPair s w p q query → IsSame w.graph query → HaveEqualEvents s p q

-- Where they differ, the bits of its variables are a frame with care for both in which the event functions have the values of the sides.
abbrev pub DifferenceIsFrame : Type 0
DifferenceIsFrame = (s : EventSide (Either ℕ ℕ)) (w : EventGraphView) (p q : Either ℕ ℕ) (query : Query) (bits : List Bool) → IsEventGraph w → AsksEventPair s w p q query → IsDifference w.graph query bits →
    IsUnshownFrame s p q (variables_of w query.vars) bits (value w.graph (assigned_to query.vars bits) query.left.0) (value w.graph (assigned_to query.vars bits) query.right.0)

-- a query of frames, and its sides in the frame of these bits
pub record IsFrameDifference (s : EventSide (Either ℕ ℕ)) (w : EventGraphView) (p q : Either ℕ ℕ) (query : Query) (bits : List Bool) : Type 0 where
  pub asked : frame_query.Query (List ℕ)
  pub differs : IsEventDifference s p q asked (variables_of w query.vars) bits
  pub left : asked.left (frame_of (variables_of w query.vars) bits) ≡ value w.graph (assigned_to query.vars bits) query.left.0
  pub right : asked.right (frame_of (variables_of w query.vars) bits) ≡ value w.graph (assigned_to query.vars bits) query.right.0

-- The bits are an assignment of the variables of the pair that makes its functions differ, up to 16 variables the least one.
abbrev pub DifferenceIsLeast : Type 0
DifferenceIsLeast = (s : EventSide (Either ℕ ℕ)) (w : EventGraphView) (p q : Either ℕ ℕ) (query : Query) (bits : List Bool) → IsEventGraph w → AsksEventPair s w p q query → IsDifference w.graph query bits → IsFrameDifference s w p q query bits

-- the query of the pair, whose sides agree wherever its care holds
pub record HasSameQuery (s : EventSide (Either ℕ ℕ)) (w : EventGraphView) (p q : Either ℕ ℕ) : Type 0 where
  pub query : Query
  pub asks : AsksEventPair s w p q query
  pub same : IsSame w.graph query

-- Where that holds of each pair of outputs, the circuits agree in the event mode.
abbrev pub SameQueriesAgree : Type 0
SameQueriesAgree = (a b : EventCircuitView) (w : EventGraphView) → AreKept a b w → HasClasses (both_of a b) → LatchesHaveDepths (both_of a b).circuit (IsEnabled (both_of a b).circuit) → AreNumbered (circuit_of a.net) (circuit_of b.net) a.order b.order →
    ((p q : ℕ) → IsPair [] (circuit_of a.net) (circuit_of b.net) p q → HasSameQuery (both_of a b) w (Left p) (Right q)) → Agree Event (circuit_of a.net) (circuit_of b.net)

-- With the latches of a minimal cut exposed, where it holds of each pair of the circuits as they are cut, the circuits themselves agree in the
-- event mode, and agree onward.
abbrev pub SameCutQueriesAgree : Type 0
SameCutQueriesAgree = (c d : Circuit ℕ) (m n : ℕ) (names : List (List ℕ)) (a b : EventCircuitView) (w : EventGraphView) → IsNet c m → IsNet d n → HasDistinctNames c → HasDistinctNames d → IsMinimalCut Event c d names →
    IsCutCircuit names c (circuit_of a.net) → IsCutCircuit names d (circuit_of b.net) → AreKept a b w → HasClasses (both_of a b) → LatchesHaveDepths (both_of a b).circuit (IsEnabled (both_of a b).circuit) → AreNumbered (circuit_of a.net) (circuit_of b.net) a.order b.order →
    ((p q : ℕ) → IsPair names c d p q → HasSameQuery (both_of a b) w (Left p) (Right q)) → Agree Event c d × AgreeOnward Event names c d
