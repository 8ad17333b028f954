-- Readings, ways along them, and the same turned round.
use Rattle.std.specs.Prelude.{◌≡◌, ℕ, ◌<◌, ◌⊎◌, List, length, slice_get, Some}
use Rattle.latch_graph.specs.minimal_cut.graph_components.flat_net.Signal.{Signal}
use Rattle.latch_graph.specs.minimal_cut.graph_components.Node.{Node}

-- the signal s reads the signal r
pub record NodeReads (nodes : List Node) (s r : ℕ) : Type 0 where
  pub node : Node
  pub place : ℕ
  pub signal : Signal
  pub here : slice_get nodes s ≡ Some node
  pub read : slice_get node.reads place ≡ Some signal
  pub is : signal.0 ≡ r

-- a way of one or more readings, through signals that aren't blocked
pub data WayBack (nodes : List Node) (blocked : ℕ → Type 0) : ℕ → ℕ → Type 0 where
  last : {s r : ℕ} → NodeReads nodes s r → WayBack nodes blocked s r
  more : {s q r : ℕ} → NodeReads nodes s q → (blocked q → ⊥) → WayBack nodes blocked q r → WayBack nodes blocked s r

-- each signal has those that read it
pub record AreReaders (nodes readers : List Node) : Type 0 where
  pub size : length readers ≡ length nodes
  pub back : (s r : ℕ) → NodeReads nodes s r → NodeReads readers r s
  pub from : (s r : ℕ) → NodeReads readers r s → NodeReads nodes s r

-- the same of the readings of the first s signals, and of the first k of the next one
pub record AreReadersUpTo (nodes : List Node) (s k : ℕ) (readers : List Node) : Type 0 where
  pub size : length readers ≡ length nodes
  pub back : (x r : ℕ) → (e : NodeReads nodes x r) → (x < s) ⊎ ((x ≡ s) × (e.place < k)) → NodeReads readers r x
  pub from : (x r : ℕ) → NodeReads readers r x → NodeReads nodes x r
