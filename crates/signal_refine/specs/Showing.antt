-- Ties of the signals of two nets that are an inductive invariant.
use Rattle.std.specs.Prelude.{◌≡◌, ℕ, ◌+◌, ◌*◌, ◌^◌, ◌<◌, ◌≤◌, Bool, List, length}
use Rattle.std.specs.List.{All}
use Rattle.circuit_theory.specs.Joined.{Either}
use Rattle.circuit_laws.specs.declared.signal_laws.anchor.Anchor.{Anchor}
use Rattle.aig.specs.declared.node.Lit.{Lit}
use Rattle.aig.specs.declared.node.Node.{Node}
use Rattle.circuit_laws.specs.signal_laws.Invariants.{IsFirstCycle, AreSuccessive}
use Rattle.signal_refine.specs.declared.nets.SignalNets.{SignalNets}
use Rattle.signal_refine.specs.declared.leaves.Latches.TheVariants as latches
use Rattle.signal_refine.specs.declared.leaves.Cycle.{Cycle}
use Rattle.signal_refine.specs.Places.{size_of, places_of, whole, order_of}
use Rattle.signal_refine.specs.Copies.{node_at, AreTiedAt}
use Rattle.signal_refine.specs.Frames.{HaveValues, IsReadBy}
use Rattle.signal_refine.specs.Told.{AreTold}
use Rattle.signal_refine.specs.Assuming.{IsInductiveUnder}

-- each input has a number, and numbers and places are small
pub record AreReady (n : SignalNets) : Type 0 where
  pub left_long : length n.orders.now.left ≡ length n.left.now.inputs
  pub right_long : length n.orders.now.right ≡ length n.right.now.inputs
  pub left_small : All (λ i. i < 2 ^ 30) n.orders.now.left
  pub right_small : All (λ i. i < 2 ^ 30) n.orders.now.right
  pub few : places_of n < 2 ^ 30

-- all inputs' numbers are below this one, which is small
pub record AreBelow (n : SignalNets) (first : ℕ) : Type 0 where
  pub left : All (λ i. i < first) n.orders.now.left
  pub right : All (λ i. i < first) n.orders.now.right
  pub small : first ≤ 2 ^ 30

-- the cycle whose inputs have their numbers as variables, and whose latches have those from `first` on
abbrev pub free_cycle : SignalNets → ℕ → Cycle
free_cycle n first = record { nets = n; inputs = 0; first = first; latches = latches.Free }

-- signals have these literals of the graph
abbrev pub AreLits : SignalNets → ℕ → List Node → List Lit → Type 0
AreLits n first base lits = All (λ x. x.0 < 2 * length base) lits × (length lits ≡ places_of n) × ((a : ℕ → Bool) (v : Either ℕ ℕ → Bool) → IsReadBy (free_cycle n first) base a v → HaveValues (size_of n) base a v lits)

-- Ties of the graph's nodes hold of the values of a cycle: its inputs and latches are the variables of an assignment under which they do.
abbrev pub AreTiedNodes : SignalNets → ℕ → List Node → List Anchor → (Either ℕ ℕ → Bool) → Type 0
AreTiedNodes n first base nodes x = (a : ℕ → Bool) × IsReadBy (free_cycle n first) base a x × AreTiedAt nodes (node_at base a)

-- they hold in each first cycle in which the assumption is met
abbrev pub Begins : ((Either ℕ ℕ → Bool) → Type 0) → SignalNets → ℕ → List Node → List Anchor → Type 0
Begins met n first base nodes = (x : Either ℕ ℕ → Bool) → IsFirstCycle (whole n) (order_of n) x → met x → AreTiedNodes n first base nodes x

-- They hold in each cycle that follows on one in which they hold, where the assumption is met in both.
abbrev pub Steps : ((Either ℕ ℕ → Bool) → Type 0) → SignalNets → ℕ → List Node → List Anchor → Type 0
Steps met n first base nodes = (x y : Either ℕ ℕ → Bool) → AreSuccessive (whole n) (order_of n) x y → met x → met y → AreTiedNodes n first base nodes x → AreTiedNodes n first base nodes y

-- they are an inductive invariant of both nets under the assumption
abbrev pub AreInductiveNodes : ((Either ℕ ℕ → Bool) → Type 0) → SignalNets → ℕ → List Node → List Anchor → Type 0
AreInductiveNodes met n first base nodes = IsInductiveUnder (whole n) (order_of n) met (AreTiedNodes n first base nodes)

-- Ties of signals that hold wherever those of a graph's nodes do, which are an inductive invariant under the assumption. The graph's variables
-- are the inputs and the latches of both nets, and each signal is a literal of it.
pub record AreInductiveTies (met : (Either ℕ ℕ → Bool) → Type 0) (n : SignalNets) (anchors : List Anchor) : Type 0 where
  pub first : ℕ
  pub base : List Node
  pub lits : List Lit
  pub are_lits : AreLits n first base lits
  pub nodes : List Anchor
  pub inductive : AreInductiveNodes met n first base nodes
  pub told : AreTold lits nodes anchors
