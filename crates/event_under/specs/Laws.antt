-- What the answers of the event form say under an assumption. Each law is the contract of a function of this crate.
use Rattle.std.specs.Prelude.{◌≡◌, ℕ, ◌<◌, max, Bool, List, [], None}
use Rattle.std.specs.List.{All, AllZip, Contains}
use Rattle.circuit_theory.specs.declared.Mode.TheVariants.{Event}
use Rattle.circuit_theory.specs.Agree.{IsPair, IsMinimalCut}
use Rattle.circuit_theory.specs.Circuit.{Circuit}
use Rattle.circuit_theory.specs.Depth.{IsDepth, LatchesHaveDepths}
use Rattle.circuit_theory.specs.Fits.{MakesDiffer}
use Rattle.circuit_theory.specs.Joined.{Either, Left, Right}
use Rattle.circuit_theory.specs.Net.{IsNet, HasDistinctNames}
use Rattle.circuit_theory.specs.Query as frame_query
use Rattle.circuit_theory.specs.Query.{Variable}
use Rattle.circuit_theory.specs.Run.{IsEnabled}
use Rattle.circuit_theory.specs.Sequence.{sequence_rows}
use Rattle.circuit_theory.specs.Tree.{Tree, AreNumbered}
use Rattle.circuit_theory.specs.Classes.{HasClasses}
use Rattle.circuit_theory.specs.EventFits.{ReachesAlways}
use Rattle.circuit_theory.specs.EventFrames.{AreNodeVariables, IsPairTree, frame_of}
use Rattle.circuit_theory.specs.Frame.{EventSide, EventUnfolds, bits_as_shifts}
use Rattle.flat_net.specs.Cut.{IsCutCircuit}
use Rattle.flat_net.specs.View.{circuit_of}
use Rattle.base_tables.specs.Table.{AreDistinct}
use Rattle.sec_base.specs.declared.basics.PairAnswer.TheVariants as answer
use Rattle.aig.specs.declared.node.Node.{Node}
use Rattle.aig.specs.Values.{value}
use Rattle.obligations.specs.outcome.pair_decide.Query.{Query}
use Rattle.obligations.specs.outcome.pair_decide.Answers.{IsDifference}
use Rattle.obligations.specs.outcome.pair_decide.Queries.{assigned_to}
use Rattle.event_nodes.specs.Nodes.{EventGraphView}
use Rattle.event_nodes.specs.View.{EventCircuitView, Enabled}
use Rattle.edbf_unfold.specs.class_queries.Enables.{both_of}
use Rattle.edbf_unfold.specs.class_queries.Laws.{AreKept}
use Rattle.sec_setup.specs.declared.ports.pairs.SignalPair.{SignalPair}
use Rattle.obligations.specs.declared.obligation.Obligation.{Obligation}
use Rattle.obligations.specs.Decided.{IsAnswered}
use Rattle.obligations.specs.declared.outcome.verdict.PairResult.{PairResult}
use Rattle.assume_laws.specs.Assume.{Assumption, ReadsInputs, AgreeUnder, AgreeOnwardUnder}
use Rattle.assume_laws.specs.Sequences.{IsSideTree, IsEventDifferenceUnder, IsUnshownFrameUnder, IsMeetingRow, RowsMeet, filled_frame}
use Rattle.event_under.specs.Asked.{variables_in, AsksUnder, IsAskedUnder}
use Rattle.event_under.specs.Answers.{PairFitsUnder}

-- The variables of a pair's two functions are those of the two and of their cares.
abbrev pub SidesHaveAllVariables : Type 0
SidesHaveAllVariables = (a b : EventCircuitView) (w : EventGraphView) (p q : Either ℕ ℕ) (left right : Tree (List ℕ)) (variables : List (Variable (List ℕ))) → AreKept a b w → EventUnfolds (both_of a b) (IsEnabled (both_of a b).circuit) None p [] left →
    EventUnfolds (both_of a b) (IsEnabled (both_of a b).circuit) None q [] right → AreNodeVariables (IsPairTree (both_of a b) p q) variables → AreNodeVariables (IsSideTree (both_of a b) p q) variables

-- The answer to what is asked of a pair fits the pair.
abbrev pub PairsFitUnder : Type 0
PairsFitUnder = (c : Assumption) (s : EventSide (Either ℕ ℕ)) (w : EventGraphView) (g : List Node) (places : List (ℕ × List ℕ)) (cut : Bool) (conflicts : ℕ) (p : SignalPair) (o u : Obligation) (r : PairResult) → AreDistinct places →
    IsAskedUnder c s w g places cut p o u → IsAnswered g conflicts u r → PairFitsUnder c s cut conflicts p r

-- A difference: a query of frames, whose sides have the values of the literals in the frame of these bits, and that frame.
pub record IsFrameDifferenceUnder (c : Assumption) (s : EventSide (Either ℕ ℕ)) (g : List Node) (places : List (ℕ × List ℕ)) (p q : Either ℕ ℕ) (sides : List (Variable (List ℕ))) (query : Query) (bits : List Bool) : Type 0 where
  pub asked : frame_query.Query (List ℕ)
  pub differs : IsEventDifferenceUnder c s p q asked sides (variables_in places query.vars) bits
  pub left : asked.left (frame_of (variables_in places query.vars) bits) ≡ value g (assigned_to query.vars bits) query.left.0
  pub right : asked.right (frame_of (variables_in places query.vars) bits) ≡ value g (assigned_to query.vars bits) query.right.0
  pub shown : IsUnshownFrameUnder c s p q (variables_in places query.vars) bits (value g (assigned_to query.vars bits) query.left.0) (value g (assigned_to query.vars bits) query.right.0)

-- The bits of a difference are those of an assignment of the query's variables that meets its care and makes the sides differ, up to 16 variables
-- of the least one.
abbrev pub DifferencesShowUnder : Type 0
DifferencesShowUnder = (c : Assumption) (s : EventSide (Either ℕ ℕ)) (g : List Node) (places : List (ℕ × List ℕ)) (p q : Either ℕ ℕ) (sides : List (Variable (List ℕ))) (query : Query) (bits : List Bool) → AreDistinct places →
    AsksUnder c s g places p q sides query → IsDifference g query bits → IsFrameDifferenceUnder c s g places p q sides query bits

-- Where a pair reaches class 0 alone, the sequence of a difference, with the meeting row where no variable of both sides stands, makes both signals
-- differ in all runs, and each of its cycles meets the assumption.
abbrev pub AlwaysDifferencesShowUnder : Type 0
AlwaysDifferencesShowUnder = (c : Assumption) (a b : EventCircuitView) (w : EventGraphView) (p q count d e : ℕ) (asked : frame_query.Query (List ℕ)) (sides variables : List (Variable (List ℕ))) (bits : List Bool) (meeting : ℕ → Bool) → AreKept a b w →
    HasClasses (both_of a b) → LatchesHaveDepths (both_of a b).circuit (IsEnabled (both_of a b).circuit) → AreNumbered (circuit_of a.net) (circuit_of b.net) a.order b.order →
    IsEventDifferenceUnder c (both_of a b) (Left p) (Right q) asked sides variables bits → All (λ (x : Variable (List ℕ)). x.input < count) variables → IsMeetingRow c count meeting →
    IsDepth (circuit_of a.net) (Enabled a) p d → IsDepth (circuit_of b.net) (Enabled b) q e → ReachesAlways (both_of a b) (Left p) → ReachesAlways (both_of a b) (Right q) →
    MakesDiffer (circuit_of a.net) (circuit_of b.net) a.order b.order p q (sequence_rows (max d e) (bits_as_shifts (filled_frame sides variables meeting bits)) count) (max d e) (asked.left (frame_of variables bits)) (asked.right (frame_of variables bits))
    × RowsMeet c (sequence_rows (max d e) (bits_as_shifts (filled_frame sides variables meeting bits)) count) (max d e)

-- each pair of the circuits, where the latches of these names are exposed, is one of these
abbrev pub AreAllPairs : List (List ℕ) → Circuit ℕ → Circuit ℕ → List SignalPair → Type 0
AreAllPairs names c d pairs = (p q : ℕ) → IsPair names c d p q → (x : SignalPair) × Contains pairs x × (x.left.0 ≡ p) × (x.right.0 ≡ q)

-- Where all pairs of outputs are equal, the circuits agree in the runs that meet the assumption.
abbrev pub EqualPairsAgreeUnder : Type 0
EqualPairsAgreeUnder = (c : Assumption) (a b : EventCircuitView) (w : EventGraphView) (cut : Bool) (conflicts : ℕ) (pairs : List SignalPair) (results : List PairResult) → AreKept a b w → HasClasses (both_of a b) →
    LatchesHaveDepths (both_of a b).circuit (IsEnabled (both_of a b).circuit) → AreNumbered (circuit_of a.net) (circuit_of b.net) a.order b.order → ReadsInputs c (circuit_of a.net) a.order →
    AllZip (PairFitsUnder c (both_of a b) cut conflicts) pairs results → All (λ (r : PairResult). r.answer ≡ answer.Equal) results → AreAllPairs [] (circuit_of a.net) (circuit_of b.net) pairs → AgreeUnder Event c (circuit_of a.net) (circuit_of b.net)

-- With the latches of a minimal cut exposed, where all pairs of the circuits as they are cut are equal, the circuits agree in these runs, and agree
-- onward.
abbrev pub EqualCutsAgreeUnder : Type 0
EqualCutsAgreeUnder = (c : Assumption) (d e : Circuit ℕ) (m n : ℕ) (names : List (List ℕ)) (a b : EventCircuitView) (w : EventGraphView) (cut : Bool) (conflicts : ℕ) (pairs : List SignalPair) (results : List PairResult) → IsNet d m → IsNet e n → HasDistinctNames d →
    HasDistinctNames e → IsMinimalCut Event d e names → IsCutCircuit names d (circuit_of a.net) → IsCutCircuit names e (circuit_of b.net) → AreKept a b w → HasClasses (both_of a b) →
    LatchesHaveDepths (both_of a b).circuit (IsEnabled (both_of a b).circuit) → AreNumbered (circuit_of a.net) (circuit_of b.net) a.order b.order → ReadsInputs c (circuit_of a.net) a.order →
    AllZip (PairFitsUnder c (both_of a b) cut conflicts) pairs results → All (λ (r : PairResult). r.answer ≡ answer.Equal) results → AreAllPairs names d e pairs → AgreeUnder Event c d e × AgreeOnwardUnder Event names c d e
