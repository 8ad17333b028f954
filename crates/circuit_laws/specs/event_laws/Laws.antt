-- What holds of all flat nets in the event form. Each law is the contract of a function of this crate.
use Rattle.std.specs.Prelude.{◌≡◌, ◌≢◌, ℕ, ◌<◌, ◌↔◌, Bool, true, false, not, ◌||◌, max, List, [], length, None, ◌∷◌, ◌++◌, Option}
use Rattle.std.specs.List.{All, Contains, AllPairs}
use Rattle.circuit_theory.specs.declared.Mode.{Mode}
use Rattle.circuit_theory.specs.declared.Mode.TheVariants.{Event}
use Rattle.circuit_theory.specs.Circuit.{Circuit, IsLatch}
use Rattle.circuit_theory.specs.Run.{ExtendsWith, IsEnabled, IsRun, IsDetermined}
use Rattle.circuit_theory.specs.Net.{IsNet, HasDistinctNames}
use Rattle.circuit_theory.specs.Depth.{IsDepth, HasCycle, LatchesHaveDepths}
use Rattle.circuit_theory.specs.Tree.{Tree, AreNumbered, tree_value}
use Rattle.circuit_theory.specs.Agree.{cut, IsPair, EnabledIn, IsSettled, AreAlike, Agree, AgreeOnward, IsMinimalCut}
use Rattle.circuit_theory.specs.Frame.{EventSide, bits_as_shifts, EventUnfolds, ConeLatches, IsEnable, AreFrameValues, EventCycle, IsNumberedRun, IsNode, HasEvents, ReachedAt}
use Rattle.circuit_theory.specs.Joined.{Either, Left, Right, joined, beside}
use Rattle.circuit_theory.specs.Classes.{HasClasses, IsClassMap, IsFounder, DiffersFromMember}
use Rattle.circuit_theory.specs.Query.{Query, Variable}
use Rattle.circuit_theory.specs.Sequence.{sequence_rows}
use Rattle.circuit_theory.specs.EventFrames.{AreNodeVariables, IsSeparation, IsPairTree, frame_of, IsUnshownFrame, HaveDifferentEvents, IsEventDifference}
use Rattle.circuit_theory.specs.Fits.{MakesDiffer}
use Rattle.circuit_theory.specs.EventFits.{IsEventWitness, ReachesAlways, HaveEqualEvents, side_by_side}
use Rattle.circuit_theory.specs.EventSizes.{Start, EventVisits}
use Rattle.circuit_theory.specs.EventTotals.{IsMapSoFar, StartLatches}
use Rattle.circuit_laws.specs.event_laws.Sides.{UnfoldsAsPart}
use Rattle.circuit_theory.specs.Reached.{LatchAtNode, AreReached, IsClosed}

-- Equal event functions mean agreement in the event mode: with the class map of both circuits side by side, where no cycle is left
-- but self-edges of enabled latches, and the functions of each pair agree in each frame with care for both.
abbrev pub EventFunctionsAgree : Type 0
EventFunctionsAgree = (a b : Circuit ℕ) (m n : ℕ) (left right : List ℕ) (class : Either ℕ ℕ → ℕ) → IsNet a m → IsNet b n → AreNumbered a b left right →
    length left ≡ length a.inputs → length right ≡ length b.inputs → HasClasses (side_by_side a b left right class) → LatchesHaveDepths (joined a b) (IsEnabled (joined a b)) →
    ((p q : ℕ) → IsPair [] a b p q → HaveEqualEvents (side_by_side a b left right class) (Left p) (Right q)) → Agree Event a b

-- The same with latches exposed by a minimal cut, where self-edges of enabled latches don't count: equal event functions of the
-- cut circuits, with the class map of both side by side, mean agreement of the circuits themselves, and agreement onward.
abbrev pub ExposedEventFunctionsAgree : Type 0
ExposedEventFunctionsAgree = (a b : Circuit ℕ) (m n : ℕ) (names : List (List ℕ)) (left right : List ℕ) (class : Either ℕ ℕ → ℕ) → IsNet a m → IsNet b n → HasDistinctNames a → HasDistinctNames b →
    IsMinimalCut Event a b names → AreNumbered (cut names a) (cut names b) left right → length left ≡ length (cut names a).inputs → length right ≡ length (cut names b).inputs →
    HasClasses (side_by_side (cut names a) (cut names b) left right class) → LatchesHaveDepths (joined (cut names a) (cut names b)) (IsEnabled (joined (cut names a) (cut names b))) →
    ((p q : ℕ) → IsPair names a b p q → HaveEqualEvents (side_by_side (cut names a) (cut names b) left right class) (Left p) (Right q)) → Agree Event a b × AgreeOnward Event names a b

-- Settled induction: where a place is settled in a run of two nets side by side, the events that it reaches exist, and the frame of
-- their inputs has care and gives its value.
abbrev pub SettledHasEvents : Type 0
SettledHasEvents = (a b : Circuit ℕ) (m n : ℕ) (left right : List ℕ) (class : Either ℕ ℕ → ℕ) → IsNet a m → IsNet b n → AreNumbered a b left right →
    length left ≡ length a.inputs → length right ≡ length b.inputs → HasClasses (side_by_side a b left right class) → LatchesHaveDepths (joined a b) (IsEnabled (joined a b)) →
    (size : ℕ) (run : ℕ → Either ℕ ℕ → Bool) → IsNumberedRun (side_by_side a b left right class) size run → (t : ℕ) (p : Either ℕ ℕ) → t < size → IsSettled Event (joined a b) run t p →
    HasEvents (side_by_side a b left right class) (IsEnabled (joined a b)) run t p

-- Common events: a node that two settled places reach, of one circuit or of both, has one cycle.
abbrev pub EventsAreCommon : Type 0
EventsAreCommon = (a b : Circuit ℕ) (m n : ℕ) (left right : List ℕ) (class : Either ℕ ℕ → ℕ) → IsNet a m → IsNet b n → AreNumbered a b left right →
    length left ≡ length a.inputs → length right ≡ length b.inputs → HasClasses (side_by_side a b left right class) → LatchesHaveDepths (joined a b) (IsEnabled (joined a b)) →
    (size : ℕ) (run : ℕ → Either ℕ ℕ → Bool) → IsNumberedRun (side_by_side a b left right class) size run → (t : ℕ) (p q : Either ℕ ℕ) → t < size →
    IsSettled Event (joined a b) run t p → IsSettled Event (joined a b) run t q → (node : List ℕ) (e d : ℕ) →
    IsNode (side_by_side a b left right class) (IsEnabled (joined a b)) (ConeLatches (joined a b) p) node → IsNode (side_by_side a b left right class) (IsEnabled (joined a b)) (ConeLatches (joined a b) q) node →
    EventCycle (side_by_side a b left right class) (IsEnabled (joined a b)) (ConeLatches (joined a b) p) run t node e →
    EventCycle (side_by_side a b left right class) (IsEnabled (joined a b)) (ConeLatches (joined a b) q) run t node d → e ≡ d

-- The printed sequence makes its pair differ in all runs, in the event form, where the pair reaches class 0 alone.
abbrev pub EventWitnessMakesDiffer : Type 0
EventWitnessMakesDiffer = (a b : Circuit ℕ) (m n : ℕ) (left right : List ℕ) (class : Either ℕ ℕ → ℕ) → IsNet a m → IsNet b n → AreNumbered a b left right →
    length left ≡ length a.inputs → length right ≡ length b.inputs → HasClasses (side_by_side a b left right class) → LatchesHaveDepths (joined a b) (IsEnabled (joined a b)) →
    (p q count : ℕ) (rows : List (List Bool)) (last : ℕ) (l r : Bool) → IsEventWitness (side_by_side a b left right class) p q count rows last l r → MakesDiffer a b left right p q rows last l r

-- Side by side each circuit has the enabled latches and the depths that it has by itself.
abbrev pub SidesAreParts : Type 0
SidesAreParts = (a b : Circuit ℕ) (m n : ℕ) → IsNet a m → IsNet b n →
    ((u : ℕ) → IsEnabled a u ↔ IsEnabled (joined a b) (Left u)) × ((v : ℕ) → IsEnabled b v ↔ IsEnabled (joined a b) (Right v))
    × ((p d : ℕ) → IsDepth a (IsEnabled a) p d → IsDepth (joined a b) (IsEnabled (joined a b)) (Left p) d)
    × ((q d : ℕ) → IsDepth b (IsEnabled b) q d → IsDepth (joined a b) (IsEnabled (joined a b)) (Right q) d)
    × (LatchesHaveDepths a (IsEnabled a) → LatchesHaveDepths b (IsEnabled b) → LatchesHaveDepths (joined a b) (IsEnabled (joined a b)))

-- A cut circuit is a net again, its enabled latches are those of the circuit that aren't exposed, and a cycle that it has is one that the
-- circuit has without the exposed latches.
abbrev pub CutIsNet : Type 0
CutIsNet = (c : Circuit ℕ) (size : ℕ) (names : List (List ℕ)) → IsNet c size → HasDistinctNames c → AllPairs (λ x y. x ≢ y) names →
    IsNet (cut names c) size
    × ((u : ℕ) → IsEnabled (cut names c) u ↔ (IsEnabled c u × ((name : List ℕ) (next : ℕ) → IsLatch c name u next → Contains names name → ⊥)))
    × ((mode : Mode) → HasCycle (cut names c) (EnabledIn mode (cut names c)) [] → HasCycle c (EnabledIn mode c) names)

-- A tree has the frame's value of its place, and an enable is 1 where the function with the latch at 0 is 1, or that with it at 1 is 0.
abbrev pub TreesAreFrameValues : Type 0
TreesAreFrameValues = (a b : Circuit ℕ) (m n : ℕ) (left right : List ℕ) (class : Either ℕ ℕ → ℕ) → IsNet a m → IsNet b n → (bits : ℕ → List ℕ → Bool) (w : List ℕ → Either ℕ ℕ → Bool) →
    AreFrameValues (side_by_side a b left right class) (IsEnabled (joined a b)) bits w →
    ((p : Either ℕ ℕ) (node : List ℕ) (tree : Tree (List ℕ)) → EventUnfolds (side_by_side a b left right class) (IsEnabled (joined a b)) None p node tree → tree_value bits tree ≡ w node p)
    × ((name : List ℕ) (u next : Either ℕ ℕ) (node : List ℕ) (bit : Bool) (low high : Either ℕ ℕ → Bool) → IsLatch (joined a b) name u next → IsEnabled (joined a b) u →
    ExtendsWith (joined a b) u false (w node) low → ExtendsWith (joined a b) u true (w node) high → IsEnable (side_by_side a b left right class) (IsEnabled (joined a b)) bits u node bit →
    bit ≡ (low next || not (high next)))

-- The class map is one function of the two circuits.
abbrev pub ClassesAreOne : Type 0
ClassesAreOne = (a b : Circuit ℕ) (m n : ℕ) (left right : List ℕ) (f g : Either ℕ ℕ → ℕ) → IsNet a m → IsNet b n → LatchesHaveDepths (joined a b) (IsEnabled (joined a b)) →
    HasClasses (side_by_side a b left right f) → HasClasses (side_by_side a b left right g) → (name : List ℕ) (u next : Either ℕ ℕ) → IsLatch (joined a b) name u next → f u ≡ g u

-- The functions of a pair differ in some frame with care for both exactly where an assignment of the variables of the pair's query shows it.
abbrev pub DifferencesAreShown : Type 0
DifferencesAreShown = (s : EventSide (Either ℕ ℕ)) (p q : Either ℕ ℕ) (variables : List (Variable (List ℕ))) → AreNodeVariables (IsPairTree s p q) variables →
    HaveDifferentEvents s p q ↔ ((bits : List Bool) × (l : Bool) × (r : Bool) × IsUnshownFrame s p q variables bits l r)

-- A difference of a pair that reaches class 0 alone gives the sequence that makes it differ.
abbrev pub EventDifferenceIsWitness : Type 0
EventDifferenceIsWitness = (s : EventSide (Either ℕ ℕ)) (p q count d e : ℕ) (query : Query (List ℕ)) (variables : List (Variable (List ℕ))) (bits : List Bool) →
    IsEventDifference s (Left p) (Right q) query variables bits → All (λ x. x.input < count) variables → IsDepth s.circuit (IsEnabled s.circuit) (Left p) d → IsDepth s.circuit (IsEnabled s.circuit) (Right q) e →
    ReachesAlways s (Left p) → ReachesAlways s (Right q) →
    IsEventWitness s p q count (sequence_rows (max d e) (bits_as_shifts (frame_of variables bits)) count) (max d e) (query.left (frame_of variables bits)) (query.right (frame_of variables bits))

-- Common events with exposed latches, of places that are settled in the circuits themselves: a node of the cut circuits that both reach
-- has one cycle, whatever the exposed latches do.
abbrev pub ExposedEventsAreCommon : Type 0
ExposedEventsAreCommon = (a b : Circuit ℕ) (m n : ℕ) (names : List (List ℕ)) (left right : List ℕ) (class : Either ℕ ℕ → ℕ) → IsNet a m → IsNet b n → HasDistinctNames a → HasDistinctNames b →
    IsMinimalCut Event a b names → AreNumbered (cut names a) (cut names b) left right → length left ≡ length (cut names a).inputs → length right ≡ length (cut names b).inputs →
    HasClasses (side_by_side (cut names a) (cut names b) left right class) → LatchesHaveDepths (joined (cut names a) (cut names b)) (IsEnabled (joined (cut names a) (cut names b))) →
    (size : ℕ) (l r : ℕ → ℕ → Bool) → AreAlike a b size l r → (t p q : ℕ) → t < size → IsSettled Event a l t p → IsSettled Event b r t q → (node : List ℕ) (e d : ℕ) →
    IsNode (side_by_side (cut names a) (cut names b) left right class) (IsEnabled (joined (cut names a) (cut names b))) (ConeLatches (joined (cut names a) (cut names b)) (Left p)) node →
    IsNode (side_by_side (cut names a) (cut names b) left right class) (IsEnabled (joined (cut names a) (cut names b))) (ConeLatches (joined (cut names a) (cut names b)) (Right q)) node →
    EventCycle (side_by_side (cut names a) (cut names b) left right class) (IsEnabled (joined (cut names a) (cut names b))) (ConeLatches (joined (cut names a) (cut names b)) (Left p)) (λ s. beside (l s) (r s)) t node e →
    EventCycle (side_by_side (cut names a) (cut names b) left right class) (IsEnabled (joined (cut names a) (cut names b))) (ConeLatches (joined (cut names a) (cut names b)) (Right q)) (λ s. beside (l s) (r s)) t node d → e ≡ d

-- The class map is one as far as it goes: of two maps of which the one goes on from the other, each gives the latches taken so far the same classes.
abbrev pub ClassesSoFarAreOne : Type 0
ClassesSoFarAreOne = (a b : Circuit ℕ) (m n : ℕ) (left right : List ℕ) (f g : Either ℕ ℕ → ℕ) (taken more rest others : List (Either ℕ ℕ)) → IsNet a m → IsNet b n →
    LatchesHaveDepths (joined a b) (IsEnabled (joined a b)) → IsMapSoFar (side_by_side a b left right f) taken rest → IsMapSoFar (side_by_side a b left right g) (taken ++ more) others →
    (u : Either ℕ ℕ) → Contains taken u → f u ≡ g u

-- What some starts reach is a finite list of latches at nodes.
abbrev pub ReachedAreListed : Type 0
ReachedAreListed = (a b : Circuit ℕ) (m n : ℕ) (left right : List ℕ) (class : Either ℕ ℕ → ℕ) → IsNet a m → IsNet b n → LatchesHaveDepths (joined a b) (IsEnabled (joined a b)) →
    (starts : List (Start (Either ℕ ℕ))) → ((x : Start (Either ℕ ℕ)) → Contains starts x → IsDetermined (joined a b) x.place) →
    (list : List (LatchAtNode (Either ℕ ℕ))) × AreReached (side_by_side a b left right class) (IsEnabled (joined a b)) (StartLatches (side_by_side a b left right class) starts) list

-- A list of latches at nodes that is closed, and of which each element is reached, holds exactly what is reached.
abbrev pub ClosedListsAreReached : Type 0
ClosedListsAreReached = (s : EventSide (Either ℕ ℕ)) (starts : List (Start (Either ℕ ℕ))) (list : List (LatchAtNode (Either ℕ ℕ))) → IsClosed s (IsEnabled s.circuit) (StartLatches s starts) list →
    ((x : LatchAtNode (Either ℕ ℕ)) → Contains list x → ReachedAt s (IsEnabled s.circuit) (StartLatches s starts) x.node x.latch) → AreReached s (IsEnabled s.circuit) (StartLatches s starts) list

-- With latches exposed by a minimal cut, of two places that are settled in the circuits themselves, in any two runs and cycles, at most one reads an exposed name.
abbrev pub ExposedNamesAreApart : Type 0
ExposedNamesAreApart = (a b : Circuit ℕ) (m n : ℕ) (names : List (List ℕ)) (left right : List ℕ) (class : Either ℕ ℕ → ℕ) → IsNet a m → IsNet b n → HasDistinctNames a → HasDistinctNames b →
    IsMinimalCut Event a b names → (size : ℕ) (l r : ℕ → ℕ → Bool) → IsRun a size l → IsRun b size r → (s t p q : ℕ) → s < size → t < size → IsSettled Event a l s p → IsSettled Event b r t q →
    (name : List ℕ) (u v : ℕ) → Contains names name → Contains (cut names a).inputs (record { name = name; place = u }) → Contains (cut names b).inputs (record { name = name; place = v }) →
    (node node' : List ℕ) (out out' : Option (Either ℕ ℕ)) →
    EventVisits (side_by_side (cut names a) (cut names b) left right class) (IsEnabled (joined (cut names a) (cut names b))) (record { place = Left p; left_out = None } ∷ []) out (Left u) node →
    EventVisits (side_by_side (cut names a) (cut names b) left right class) (IsEnabled (joined (cut names a) (cut names b))) (record { place = Right q; left_out = None } ∷ []) out' (Right v) node' → ⊥

-- Each frame has values at each node.
abbrev pub FrameValuesExist : Type 0
FrameValuesExist = (a b : Circuit ℕ) (m n : ℕ) (left right : List ℕ) (class : Either ℕ ℕ → ℕ) → IsNet a m → IsNet b n → length left ≡ length a.inputs → length right ≡ length b.inputs →
    LatchesHaveDepths (joined a b) (IsEnabled (joined a b)) → (bits : ℕ → List ℕ → Bool) →
    (w : List ℕ → Either ℕ ℕ → Bool) × AreFrameValues (side_by_side a b left right class) (IsEnabled (joined a b)) bits w

-- Two separations of the same two classes name the same two latches.
abbrev pub SeparationsAreOne : Type 0
SeparationsAreOne = (s : EventSide (Either ℕ ℕ)) (order : List (Either ℕ ℕ)) (low high : ℕ) (u v f g : Either ℕ ℕ) (xs ys : List (Variable (List ℕ))) (left_bits right_bits : List Bool) (l r l' r' : Bool) →
    IsSeparation s order low high u f xs left_bits l r → IsSeparation s order low high v g ys right_bits l' r' → (u ≡ v) × (f ≡ g)

-- The founder of a class differs from a member of each lower class that joined before it: from `always` in a frame with care in which its enable is 0.
abbrev pub FoundersAreApart : Type 0
FoundersAreApart = (s : EventSide (Either ℕ ℕ)) (order : List (Either ℕ ℕ)) (low high : ℕ) (founder : Either ℕ ℕ) → IsClassMap s order → (f : IsFounder s order high founder) → low < high → DiffersFromMember s f.before low founder

-- Side by side each circuit has the unfoldings, enables and cares that it has by itself.
abbrev pub SidesUnfoldAsParts : Type 0
SidesUnfoldAsParts = (a b : Circuit ℕ) (m n : ℕ) (left right : List ℕ) (class : Either ℕ ℕ → ℕ) → IsNet a m → IsNet b n → length left ≡ length a.inputs →
    UnfoldsAsPart (record { circuit = a; order = left; class = λ p. class (Left p) }) (side_by_side a b left right class) Left
    × UnfoldsAsPart (record { circuit = b; order = right; class = λ q. class (Right q) }) (side_by_side a b left right class) Right
