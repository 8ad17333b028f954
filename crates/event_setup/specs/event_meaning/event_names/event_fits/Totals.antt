-- What the enables of two circuits and the signals of pairs visit and reach, and where it passes the numbers of the definition.
use Rattle.std.specs.Prelude.{◌≡◌, ℕ, ◌≤◌, List, [], ◌∷◌, ◌++◌, length}
use Rattle.circuit_theory.specs.declared.Side.{Side}
use Rattle.circuit_theory.specs.Joined.{Either}
use Rattle.circuit_theory.specs.Classes.{HasClasses, classes_of}
use Rattle.circuit_theory.specs.EventSizes.{Start, IsEventOver}
use Rattle.circuit_theory.specs.EventTotals.{AreStarts, IsNodesOver, IsNodesWithin}
use Rattle.event_nodes.specs.View.{EventCircuitView, side_of, Enabled}
use Rattle.circuit_laws.specs.reset_laws.class_extension.Sides.{AreStartsOfBoth}
use Rattle.edbf_unfold.specs.class_queries.Enables.{both_of}
use Rattle.event_classes.specs.event_functions.class_totals.Totals.{circuit_at, starts_at}
use Rattle.event_form.specs.Counted.{left_starts, right_starts}
use Rattle.event_form.specs.Stopped.{lefts_before, rights_before, lefts_with, rights_with}
use Rattle.sec_setup.specs.declared.ports.pairs.SignalPair.{SignalPair}
use Rattle.event_form.specs.event_agreement.pair_events.Counted.{both_starts}
use Rattle.event_form.specs.event_agreement.pair_events.Within.{AreTotalsWithin}

-- The class map of both circuits is made: no more than 30,000 latches are enabled, they have no more than 500 classes besides `always`, and these
-- are the starts of their enables in each circuit.
pub record IsMapMade (a b : EventCircuitView) : Type 0 where
  pub map : HasClasses (both_of a b)
  pub latches : length map.order ≤ 30000
  pub few : classes_of (both_of a b) map.order ≤ 500
  pub starts : List (Start (Either ℕ ℕ))
  pub are : AreStarts (both_of a b) map.order [] starts
  pub lefts : List (Start ℕ)
  pub rights : List (Start ℕ)
  pub both : AreStartsOfBoth starts lefts rights

-- with the signals that these pairs have in A, and those that these have in B, all is within its numbers
abbrev pub IsWithinWith : (a b : EventCircuitView) → IsMapMade a b → List SignalPair → List SignalPair → Type 0
IsWithinWith a b m lefts rights = AreTotalsWithin a b (m.lefts ++ left_starts lefts) (m.rights ++ right_starts rights)

-- with them no more than 10,000 event nodes are reached, or more
abbrev pub ReachFewWith : (a b : EventCircuitView) → IsMapMade a b → List SignalPair → List SignalPair → Type 0
ReachFewWith a b m lefts rights = IsNodesWithin (both_of a b) (both_starts (m.lefts ++ left_starts lefts) (m.rights ++ right_starts rights)) 10000

abbrev pub ReachTooManyWith : (a b : EventCircuitView) → IsMapMade a b → List SignalPair → List SignalPair → Type 0
ReachTooManyWith a b m lefts rights = IsNodesOver (both_of a b) (both_starts (m.lefts ++ left_starts lefts) (m.rights ++ right_starts rights)) 10000

-- what is visited in the circuit of this side weighs more than 2,000,000
abbrev pub WeighTooMuchWith : Side → (a b : EventCircuitView) → IsMapMade a b → List SignalPair → List SignalPair → Type 0
WeighTooMuchWith side a b m lefts rights = IsEventOver (side_of (circuit_at side a b)) (Enabled (circuit_at side a b)) (starts_at side (m.lefts ++ left_starts lefts) (m.rights ++ right_starts rights)) 2000000

-- The pairs are unfolded in order, each first in A, then in B. The next signal is that of a pair in the circuit of this side; all before it is within
-- its numbers.
pub record IsNextSignal (a b : EventCircuitView) (m : IsMapMade a b) (pairs : List SignalPair) (side : Side) : Type 0 where
  pub before : List SignalPair
  pub pair : SignalPair
  pub after : List SignalPair
  pub split : pairs ≡ before ++ pair ∷ after
  pub within : IsWithinWith a b m (lefts_before side before pair) (rights_before side before pair)

-- with it more than 10,000 event nodes are reached
abbrev pub PairsReachTooMany : (a b : EventCircuitView) → IsMapMade a b → List SignalPair → Type 0
PairsReachTooMany a b m pairs = (side : Side) × (n : IsNextSignal a b m pairs side) × ReachTooManyWith a b m (lefts_with side n.before n.pair) (rights_with side n.before n.pair)

-- no more are, and its circuit's unfoldings weigh more than 2,000,000
abbrev pub PairsWeighTooMuch : Side → (a b : EventCircuitView) → IsMapMade a b → List SignalPair → Type 0
PairsWeighTooMuch side a b m pairs =
    (n : IsNextSignal a b m pairs side) × ReachFewWith a b m (lefts_with side n.before n.pair) (rights_with side n.before n.pair)
    × WeighTooMuchWith side a b m (lefts_with side n.before n.pair) (rights_with side n.before n.pair)
