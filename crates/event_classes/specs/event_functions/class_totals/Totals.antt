-- What is counted of the latches that have classes, and when it is within the numbers of the definition.
use Rattle.std.specs.Prelude.{◌≡◌, ℕ, ◌≤◌, List, [], ◌∷◌, length, slice_get, Some, Contains}
use Rattle.circuit_theory.specs.declared.Side.{Side}
use Rattle.circuit_theory.specs.declared.Side.TheVariants.{A, B}
use Rattle.circuit_theory.specs.Joined.{Either, Left, Right}
use Rattle.circuit_theory.specs.Run.{IsEnabled}
use Rattle.circuit_theory.specs.EventSizes.{Start, IsEventWeight, IsEventOver}
use Rattle.circuit_theory.specs.EventTotals.{AreStarts, IsNodesOver, IsNodesWithin, StartLatches}
use Rattle.circuit_theory.specs.Frame.{EventSide, IsNode}
use Rattle.flat_net.specs.View.{circuit_of}
use Rattle.event_nodes.specs.Nodes.{path_of}
use Rattle.event_nodes.specs.View.{EventCircuitView, side_of, Enabled}
use Rattle.event_nodes.specs.Visited.{CounterView, HasCounted}
use Rattle.edbf_unfold.specs.class_queries.Enables.{both_of}
use Rattle.circuit_laws.specs.reset_laws.class_extension.Sides.{AreStartsOfBoth, IsEnableAmong}

-- the entries are nodes that the starts reach, and all nodes that these reach were made
pub record HasNodes {P : Type 0} (s : EventSide P) (children : List (ℕ × ℕ)) (starts : List (Start P)) : Type 0 where
  pub only : (k n class : ℕ) → slice_get children k ≡ Some (n, class) → IsNode s (IsEnabled s.circuit) (StartLatches s starts) (class ∷ path_of children n)
  pub all : (node : List ℕ) → IsNode s (IsEnabled s.circuit) (StartLatches s starts) node → (n : ℕ) × (n ≤ length children) × (path_of children n ≡ node)

-- the enables of these latches are counted, each in its circuit
pub record HaveCounted (a b : EventCircuitView) (children : List (ℕ × ℕ)) (taken : List (Either ℕ ℕ)) (left right : CounterView) : Type 0 where
  pub starts : List (Start (Either ℕ ℕ))
  pub are : AreStarts (both_of a b) taken [] starts
  pub lefts : List (Start ℕ)
  pub rights : List (Start ℕ)
  pub both : AreStartsOfBoth starts lefts rights
  pub left_among : (x : Start ℕ) → Contains lefts x → IsEnableAmong (circuit_of a.net) Left taken x
  pub right_among : (x : Start ℕ) → Contains rights x → IsEnableAmong (circuit_of b.net) Right taken x
  pub left_counted : HasCounted a children lefts left
  pub right_counted : HasCounted b children rights right
  pub nodes : HasNodes (both_of a b) children starts

-- all that the enables of these latches visit and reach is within the numbers: no more than 10,000 event nodes, and no more weight than
-- 2,000,000 in each circuit
pub record AreWithin (a b : EventCircuitView) (taken : List (Either ℕ ℕ)) : Type 0 where
  pub starts : List (Start (Either ℕ ℕ))
  pub are : AreStarts (both_of a b) taken [] starts
  pub nodes : IsNodesWithin (both_of a b) starts 10000
  pub lefts : List (Start ℕ)
  pub rights : List (Start ℕ)
  pub both : AreStartsOfBoth starts lefts rights
  pub left : ℕ
  pub left_is : IsEventWeight (side_of a) (Enabled a) lefts left
  pub left_small : left ≤ 2000000
  pub right : ℕ
  pub right_is : IsEventWeight (side_of b) (Enabled b) rights right
  pub right_small : right ≤ 2000000

-- the enables of these latches reach more than 10,000 event nodes
pub record ReachTooMany (a b : EventCircuitView) (latches : List (Either ℕ ℕ)) : Type 0 where
  pub starts : List (Start (Either ℕ ℕ))
  pub are : AreStarts (both_of a b) latches [] starts
  pub over : IsNodesOver (both_of a b) starts 10000

-- they reach no more
pub record ReachFew (a b : EventCircuitView) (latches : List (Either ℕ ℕ)) : Type 0 where
  pub starts : List (Start (Either ℕ ℕ))
  pub are : AreStarts (both_of a b) latches [] starts
  pub few : IsNodesWithin (both_of a b) starts 10000

-- the circuit of a side, and what is unfolded in it
abbrev pub circuit_at : Side → EventCircuitView → EventCircuitView → EventCircuitView
circuit_at A a b = a
circuit_at B a b = b

abbrev pub starts_at : Side → List (Start ℕ) → List (Start ℕ) → List (Start ℕ)
starts_at A lefts rights = lefts
starts_at B lefts rights = rights

-- what the enables of these latches visit in the circuit of this side weighs more than 2,000,000
pub record WeighTooMuch (side : Side) (a b : EventCircuitView) (latches : List (Either ℕ ℕ)) : Type 0 where
  pub starts : List (Start (Either ℕ ℕ))
  pub are : AreStarts (both_of a b) latches [] starts
  pub lefts : List (Start ℕ)
  pub rights : List (Start ℕ)
  pub both : AreStartsOfBoth starts lefts rights
  pub over : IsEventOver (side_of (circuit_at side a b)) (Enabled (circuit_at side a b)) (starts_at side lefts rights) 2000000
