-- What holds under an assumption. Each law is the contract of a function of this crate.
use Rattle.std.specs.Prelude.{◌≡◌, ℕ, ◌+◌, ◌<◌, ◌↔◌, max, Bool, true, List, [], length, map}
use Rattle.std.specs.List.{All, Contains}
use Rattle.circuit_theory.specs.declared.Mode.TheVariants.{Plain, Event}
use Rattle.circuit_theory.specs.Circuit.{Circuit}
use Rattle.circuit_theory.specs.Run.{IsEnabled}
use Rattle.circuit_theory.specs.Net.{IsNet, HasDistinctNames}
use Rattle.circuit_theory.specs.Depth.{IsDepth, LatchesHaveDepths}
use Rattle.circuit_theory.specs.Tree.{Tree, Unfolds, AreNumbered, tree_value}
use Rattle.circuit_theory.specs.Query.{Query, Variable, IsSame, same_shift, assigned}
use Rattle.circuit_theory.specs.Sequence.{sequence_rows, row_value, TakesInputs}
use Rattle.circuit_theory.specs.Agree.{cut, IsPair, IsMinimalCut}
use Rattle.circuit_theory.specs.Interface.{AreNumbersOf}
use Rattle.circuit_theory.specs.Frame.{EventSide, bits_as_shifts}
use Rattle.circuit_theory.specs.Joined.{Either, Left, Right, joined}
use Rattle.circuit_theory.specs.Classes.{HasClasses}
use Rattle.circuit_theory.specs.EventFrames.{AreNodeVariables, frame_of}
use Rattle.circuit_theory.specs.EventFits.{side_by_side, IsEventWitness, ReachesAlways}
use Rattle.circuit_theory.specs.Fits.{MakesDiffer}
use Rattle.circuit_laws.specs.reset_laws.Reset.{HasStarts, AreBased, MakesDifferFromReset}
use Rattle.assume_laws.specs.Assume.{Assumption, IsAssumption, RowMeets, RunMeets, ReadsInputs, PlaceUnfolds, HaveEqualFunctionsUnder, AreEqualFromResetUnder, HaveEqualEventsUnder, AgreeUnder, AgreeOnwardUnder, AgreeFromResetUnder}
use Rattle.assume_laws.specs.Sequences.{IsPairTreeUnder, IsUnshownFrameUnder, HaveDifferentEventsUnder, assumption_query, IsMeetingDifference, RowsMeet, IsMeetingRow, filled_frame, IsWitnessUnder, IsResetWitnessUnder, IsEventDifferenceUnder}

-- The assumption's tree at a shift, a cycle or an event node is 1 exactly where the row there meets the assumption.
abbrev pub RowMeetsByTree : Type 0
RowMeetsByTree = (c : Assumption) (size : ℕ) → IsAssumption c size →
    ((k d : ℕ) (tree : Tree ℕ) (x : ℕ → ℕ → Bool) → Unfolds c.circuit c.order c.output k d tree → (tree_value x tree ≡ true) ↔ RowMeets c (λ i. x i k))
    × ((k : ℕ) (tree : Tree ℕ) (x : ℕ → ℕ → Bool) → PlaceUnfolds c.circuit c.order k c.output tree → (tree_value x tree ≡ true) ↔ RowMeets c (λ i. x i k))
    × ((node : List ℕ) (tree : Tree (List ℕ)) (bits : ℕ → List ℕ → Bool) → PlaceUnfolds c.circuit c.order node c.output tree → (tree_value bits tree ≡ true) ↔ RowMeets c (λ i. bits i node))

-- Where both circuits' inputs are numbered by the columns that their names have, and each input of the assumption is a column and each
-- column an input of the circuit, the assumption reads inputs of the circuit.
abbrev pub NumbersRead : Type 0
NumbersRead = (c : Assumption) (size : ℕ) (a : Circuit ℕ) (columns : List (List ℕ)) (left right others : List ℕ) → IsAssumption c size →
    AreNumbersOf (map (λ n. n.name) c.circuit.inputs) columns c.order others → AreNumbersOf (map (λ n. n.name) a.inputs) columns left right →
    ((name : List ℕ) → Contains (map (λ n. n.name) c.circuit.inputs) name → Contains columns name) → ((name : List ℕ) → Contains columns name → Contains (map (λ n. n.name) a.inputs) name) → ReadsInputs c a left

-- A run over rows that meet the assumption meets it.
abbrev pub RowsMeetInRuns : Type 0
RowsMeetInRuns = (c : Assumption) (a : Circuit ℕ) (order : List ℕ) → ReadsInputs c a order → (rows : List (List Bool)) (last : ℕ) → RowsMeet c rows last →
    (run : ℕ → ℕ → Bool) → TakesInputs a order (row_value rows) (last + 1) run → RunMeets c a (last + 1) run

-- A difference of the assumption's query gives a row that meets it and is 0 in all other inputs; and where there is none, no row meets it.
abbrev pub MeetingRowMeets : Type 0
MeetingRowMeets = (c : Assumption) (size place : ℕ) (tree : Tree ℕ) → IsAssumption c size →
    ((variables : List (Variable ℕ)) (bits : List Bool) (count : ℕ) → IsMeetingDifference c place tree variables bits → All (λ x. x.input < count) variables →
    IsMeetingRow c count (λ i. assigned same_shift variables bits i place))
    × (PlaceUnfolds c.circuit c.order place c.output tree → IsSame (assumption_query tree) → (row : ℕ → Bool) → RowMeets c row → ⊥)

-- Functions that are equal under the assumption mean agreement of the runs that meet it: without exposed latches.
abbrev pub EqualFunctionsAgreeUnder : Type 0
EqualFunctionsAgreeUnder = (c : Assumption) (a b : Circuit ℕ) (m n : ℕ) (left right : List ℕ) → IsNet a m → IsNet b n → AreNumbered a b left right → ReadsInputs c a left →
    ((p q : ℕ) → IsPair [] a b p q → HaveEqualFunctionsUnder c a b left right p q) → AgreeUnder Plain c a b

-- With exposed latches, which the assumption doesn't read.
abbrev pub ExposedFunctionsAgreeUnder : Type 0
ExposedFunctionsAgreeUnder = (c : Assumption) (a b : Circuit ℕ) (m n : ℕ) (names : List (List ℕ)) (left right : List ℕ) → IsNet a m → IsNet b n → HasDistinctNames a → HasDistinctNames b →
    IsMinimalCut Plain a b names → AreNumbered (cut names a) (cut names b) left right → ReadsInputs c (cut names a) left →
    ((p q : ℕ) → IsPair names a b p q → HaveEqualFunctionsUnder c (cut names a) (cut names b) left right p q) → AgreeUnder Plain c a b × AgreeOnwardUnder Plain names c a b

-- In the reset form.
abbrev pub EqualResetsAgreeUnder : Type 0
EqualResetsAgreeUnder = (c : Assumption) (a b : Circuit ℕ) (m n : ℕ) (left right : List ℕ) (left_base right_base : ℕ) → IsNet a m → IsNet b n → HasStarts a → HasStarts b → AreNumbered a b left right →
    AreBased a b left right left_base right_base → ReadsInputs c a left → ((p q : ℕ) → IsPair [] a b p q → AreEqualFromResetUnder c a b left right left_base right_base p q) → AgreeFromResetUnder c a b

-- In the event form, with the class map that is made without the assumption.
abbrev pub EventFunctionsAgreeUnder : Type 0
EventFunctionsAgreeUnder = (c : Assumption) (a b : Circuit ℕ) (m n : ℕ) (left right : List ℕ) (class : Either ℕ ℕ → ℕ) → IsNet a m → IsNet b n → AreNumbered a b left right →
    length left ≡ length a.inputs → length right ≡ length b.inputs → HasClasses (side_by_side a b left right class) → LatchesHaveDepths (joined a b) (IsEnabled (joined a b)) → ReadsInputs c a left →
    ((p q : ℕ) → IsPair [] a b p q → HaveEqualEventsUnder c (side_by_side a b left right class) (Left p) (Right q)) → AgreeUnder Event c a b

-- In the event form with exposed latches.
abbrev pub ExposedEventFunctionsAgreeUnder : Type 0
ExposedEventFunctionsAgreeUnder = (c : Assumption) (a b : Circuit ℕ) (m n : ℕ) (names : List (List ℕ)) (left right : List ℕ) (class : Either ℕ ℕ → ℕ) → IsNet a m → IsNet b n → HasDistinctNames a → HasDistinctNames b →
    IsMinimalCut Event a b names → AreNumbered (cut names a) (cut names b) left right → length left ≡ length (cut names a).inputs → length right ≡ length (cut names b).inputs →
    HasClasses (side_by_side (cut names a) (cut names b) left right class) → LatchesHaveDepths (joined (cut names a) (cut names b)) (IsEnabled (joined (cut names a) (cut names b))) → ReadsInputs c (cut names a) left →
    ((p q : ℕ) → IsPair names a b p q → HaveEqualEventsUnder c (side_by_side (cut names a) (cut names b) left right class) (Left p) (Right q)) → AgreeUnder Event c a b × AgreeOnwardUnder Event names c a b

-- The printed sequence meets the assumption in each of its cycles, and makes its pair differ in all runs.
abbrev pub WitnessMakesDifferUnder : Type 0
WitnessMakesDifferUnder = (c : Assumption) (a b : Circuit ℕ) (left right : List ℕ) (p q count : ℕ) (meeting : ℕ → Bool) (rows : List (List Bool)) (last : ℕ) (l r : Bool) →
    IsWitnessUnder c a b left right p q count meeting rows last l r → MakesDiffer a b left right p q rows last l r × RowsMeet c rows last

-- The same in the reset form.
abbrev pub ResetWitnessMakesDifferUnder : Type 0
ResetWitnessMakesDifferUnder = (c : Assumption) (a b : Circuit ℕ) (left right : List ℕ) (left_base right_base p q count : ℕ) (meeting : ℕ → Bool) (rows : List (List Bool)) (left_power right_power : List Bool) (last : ℕ) (l r : Bool) →
    HasStarts a → HasStarts b → AreBased a b left right left_base right_base → ReadsInputs c a left → IsResetWitnessUnder c a b left right left_base right_base p q count meeting rows left_power right_power last l r →
    MakesDifferFromReset a b left right p q rows left_power right_power last l r × RowsMeet c rows last

-- In the event form a difference of a pair that reaches class 0 alone gives a sequence that meets the assumption in each cycle and is
-- one that makes the pair differ in all runs.
abbrev pub EventDifferenceIsWitnessUnder : Type 0
EventDifferenceIsWitnessUnder = (c : Assumption) (s : EventSide (Either ℕ ℕ)) (p q count d e : ℕ) (query : Query (List ℕ)) (sides variables : List (Variable (List ℕ))) (bits : List Bool) (meeting : ℕ → Bool) →
    IsEventDifferenceUnder c s (Left p) (Right q) query sides variables bits → All (λ x. x.input < count) variables → IsMeetingRow c count meeting →
    IsDepth s.circuit (IsEnabled s.circuit) (Left p) d → IsDepth s.circuit (IsEnabled s.circuit) (Right q) e → ReachesAlways s (Left p) → ReachesAlways s (Right q) →
    IsEventWitness s p q count (sequence_rows (max d e) (bits_as_shifts (filled_frame sides variables meeting bits)) count) (max d e) (query.left (frame_of variables bits)) (query.right (frame_of variables bits))
    × RowsMeet c (sequence_rows (max d e) (bits_as_shifts (filled_frame sides variables meeting bits)) count) (max d e)

-- The functions of a pair differ in some frame that meets the query's care exactly where an assignment of its variables shows it.
abbrev pub DifferencesAreShownUnder : Type 0
DifferencesAreShownUnder = (c : Assumption) (size : ℕ) (s : EventSide (Either ℕ ℕ)) (p q : Either ℕ ℕ) (variables : List (Variable (List ℕ))) → IsAssumption c size → AreNodeVariables (IsPairTreeUnder c s p q) variables →
    HaveDifferentEventsUnder c s p q ↔ ((bits : List Bool) × (l : Bool) × (r : Bool) × IsUnshownFrameUnder c s p q variables bits l r)
