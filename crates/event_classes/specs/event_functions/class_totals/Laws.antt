-- How totals go on, and what they say. Each law is the contract of a function of this crate.
use Rattle.std.specs.Prelude.{◌≡◌, ℕ, ◌<◌, ◌≤◌, List, [], ◌∷◌, ◌++◌, length, slice_get, Some, All, Contains}
use Rattle.circuit_theory.specs.declared.Side.TheVariants.{A, B}
use Rattle.circuit_theory.specs.Joined.{Either, Left, Right}
use Rattle.circuit_theory.specs.EventSizes.{Start, IsEventOver}
use Rattle.flat_net.specs.declared.parts.LatchAt.{LatchAt}
use Rattle.flat_net.specs.Sound.{IsSound}
use Rattle.flat_net.specs.View.{circuit_of}
use Rattle.base_tables.specs.Table.{AreDistinct}
use Rattle.event_nodes.specs.Adds.{Adds}
use Rattle.event_nodes.specs.Nodes.{EventGraphView, IsEventGraph}
use Rattle.event_nodes.specs.View.{EventCircuitView, side_of, Enabled}
use Rattle.event_nodes.specs.Visited.{CounterView, IsVisitedPair, AreNodesFrom, HoldsNodes}
use Rattle.edbf_unfold.specs.event_literals.event_walk.Walk.{IsCounting, HasCountedStart, enable_start}
use Rattle.edbf_unfold.specs.class_queries.Enables.{class_map}
use Rattle.circuit_laws.specs.reset_laws.class_extension.Laws.{IsNextGiven}
use Rattle.event_classes.specs.event_functions.class_totals.Totals.{HaveCounted, AreWithin, ReachTooMany, ReachFew, WeighTooMuch}

abbrev pub nothing : CounterView
nothing = record { places = []; weight = 0 }

-- Where no latch is taken, nothing is counted.
abbrev pub TotalsBegin : Type 0
TotalsBegin = (a b : EventCircuitView) → HaveCounted a b [] [] nothing nothing

-- Where the next latch is counted, what has been counted stays so whatever class the latch is given.
abbrev pub TotalsStay : Type 0
TotalsStay = (a b : EventCircuitView) (ks ls : List ℕ) (children : List (ℕ × ℕ)) (taken rest : List (Either ℕ ℕ)) (u : Either ℕ ℕ) (left right : CounterView) →
    IsNextGiven (circuit_of a.net) (circuit_of b.net) (length a.net.drivers) (length b.net.drivers) a.order b.order (class_map a b) (class_map (record a { classes = ks }) (record b { classes = ls })) taken rest u →
    HaveCounted a b children (taken ++ u ∷ []) left right → HaveCounted (record a { classes = ks }) (record b { classes = ls }) children (taken ++ u ∷ []) left right

-- The enable of the next latch, of the one circuit or of the other, is counted too.
abbrev pub TotalsGoOn : Type 0
TotalsGoOn = (a b : EventCircuitView) (old new : List (ℕ × ℕ)) (taken : List (Either ℕ ℕ)) (j : ℕ) (l : LatchAt) (left right more : CounterView) → IsSound a.net → IsSound b.net → ((k n class : ℕ) → slice_get old k ≡ Some (n, class) → n ≤ length old) → HaveCounted a b old taken left right →
    (slice_get a.net.latches j ≡ Some l → IsCounting a (enable_start l) old new left more → HasCountedStart a (enable_start l) new left more → HaveCounted a b new (taken ++ Left l.out.0 ∷ []) more right)
    × (slice_get b.net.latches j ≡ Some l → IsCounting b (enable_start l) old new right more → HasCountedStart b (enable_start l) new right more → HaveCounted a b new (taken ++ Right l.out.0 ∷ []) left more)

-- What has been counted is within the numbers of the definition.
abbrev pub TotalsAreWithin : Type 0
TotalsAreWithin = (a b : EventCircuitView) (w : EventGraphView) (taken : List (Either ℕ ℕ)) (left right : CounterView) → IsSound a.net → IsSound b.net → IsEventGraph w → AreDistinct left.places → AreDistinct right.places → length w.children < 10000 → HaveCounted a b w.children taken left right → AreWithin a b taken

-- Where with the next latch 10,000 event nodes were made besides the root, too many are reached.
abbrev pub ManyNodesAreOver : Type 0
ManyNodesAreOver = (a b : EventCircuitView) (old : List (ℕ × ℕ)) (w : EventGraphView) (taken : List (Either ℕ ℕ)) (j : ℕ) (l : LatchAt) (left right : CounterView) → IsSound a.net → IsSound b.net → ((k n class : ℕ) → slice_get old k ≡ Some (n, class) → n ≤ length old) → IsEventGraph w → Adds (λ q. Unit {0}) old w.children →
    10000 ≤ length w.children → HaveCounted a b old taken left right →
    (slice_get a.net.latches j ≡ Some l → AreNodesFrom a w.children (enable_start l) (length old) → ReachTooMany a b (taken ++ Left l.out.0 ∷ []))
    × (slice_get b.net.latches j ≡ Some l → AreNodesFrom b w.children (enable_start l) (length old) → ReachTooMany a b (taken ++ Right l.out.0 ∷ []))

-- Where the next latch weighs too much with what was counted of its circuit, so do the unfoldings of this circuit with it.
abbrev pub HeavyIsOver : Type 0
HeavyIsOver = (a b : EventCircuitView) (old : List (ℕ × ℕ)) (taken : List (Either ℕ ℕ)) (j : ℕ) (l : LatchAt) (left right : CounterView) → IsSound a.net → IsSound b.net → HaveCounted a b old taken left right →
    (slice_get a.net.latches j ≡ Some l → ((starts : List (Start ℕ)) → Contains starts (enable_start l) → All (IsVisitedPair a old starts) left.places → IsEventOver (side_of a) (Enabled a) starts 2000000) → WeighTooMuch A a b (taken ++ Left l.out.0 ∷ []))
    × (slice_get b.net.latches j ≡ Some l → ((starts : List (Start ℕ)) → Contains starts (enable_start l) → All (IsVisitedPair b old starts) right.places → IsEventOver (side_of b) (Enabled b) starts 2000000) → WeighTooMuch B a b (taken ++ Right l.out.0 ∷ []))

-- Where with the next latch fewer than 10,000 event nodes were made besides the root, and all that it reaches, the nodes are within their number with it.
abbrev pub FewNodesAreWithin : Type 0
FewNodesAreWithin = (a b : EventCircuitView) (old new : List (ℕ × ℕ)) (taken : List (Either ℕ ℕ)) (j : ℕ) (l : LatchAt) (left right : CounterView) → IsSound a.net → IsSound b.net → ((k n class : ℕ) → slice_get old k ≡ Some (n, class) → n ≤ length old) → Adds (λ q. Unit {0}) old new →
    length new < 10000 → HaveCounted a b old taken left right →
    (slice_get a.net.latches j ≡ Some l → AreNodesFrom a new (enable_start l) (length old) → HoldsNodes a new (enable_start l) → ReachFew a b (taken ++ Left l.out.0 ∷ []))
    × (slice_get b.net.latches j ≡ Some l → AreNodesFrom b new (enable_start l) (length old) → HoldsNodes b new (enable_start l) → ReachFew a b (taken ++ Right l.out.0 ∷ []))
