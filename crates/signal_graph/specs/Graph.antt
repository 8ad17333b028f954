-- What a contract sees of a latch graph, and of which net it is the graph.
use Rattle.std.specs.Prelude.{◌≡◌, ℕ, Bool, true, false, List, [], ◌∷◌, length, map, slice_get, slice_index_or, Option, Some, None, ◌^◌, ◌<◌}
use Rattle.signal_graph.specs.inner_cone.latch_cone.Cones.{IsMarkedBy, MarksEnabled}
use Rattle.signal_graph.specs.inner_cone.Sides.{AreSides}
use Rattle.signal_graph.specs.inner_cone.flat_net.Signal.{Signal}
use Rattle.signal_graph.specs.inner_cone.flat_net.Gate.{Gate}
use Rattle.signal_graph.specs.inner_cone.flat_net.LatchAt.{LatchAt}
use Rattle.signal_graph.specs.inner_cone.flat_net.Driver.{Driver}
use Rattle.signal_graph.specs.inner_cone.flat_net.Driver.TheVariants as driver
use Rattle.signal_graph.specs.inner_cone.flat_net.View.{NetView}
use Rattle.signal_graph.specs.inner_cone.circuit_theory.Mode.{Mode}
use Rattle.signal_graph.specs.inner_cone.flat_net.Sound.{IsSound}
use Rattle.signal_graph.specs.inner_cone.flat_net.Cut.{no_latch}
use Rattle.signal_graph.specs.declared.nodes.Node.{Node}

pub record GraphView : Type 0 where
  -- for each signal what it reads
  pub nodes : List Node
  pub latches : List LatchAt
  -- for each latch whether its self-edge is left out
  pub skipped : List Bool

-- the graph leaves out the self-edge of the latch that has this signal
abbrev pub SkippedBy : GraphView → ℕ → Type 0
SkippedBy g = IsMarkedBy g.latches g.skipped

-- no bit is set
abbrev pub NoneSet : List Bool → Type 0
NoneSet bits = (j : ℕ) (bit : Bool) → slice_get bits j ≡ Some bit → bit ≡ false

-- What a latch's node reads: what the latch takes over, or without its self-edge signals that don't lead back to it, by which the
-- other latches of its cone are reached.
abbrev pub AreTaken : NetView → LatchAt → Bool → List Signal → Type 0
AreTaken n l false reads = reads ≡ l.next ∷ []
AreTaken n l true reads = AreSides n l.next.0 l.out.0 reads

-- the node has what the signal's driver reads: in the same cycle, or as a latch in the cycle before
abbrev pub IsNodeOf : NetView → List Bool → Driver → Node → Type 0
IsNodeOf n bits (driver.Input i) node = (node.reads ≡ []) × (node.latch ≡ None)
IsNodeOf n bits (driver.Gate j) node = (g : Gate) × (slice_get n.gates j ≡ Some g) × (node.reads ≡ g.fanins) × (node.latch ≡ None)
IsNodeOf n bits (driver.Latch j) node =
    (l : LatchAt) × (slice_get n.latches j ≡ Some l) × (bit : Bool) × (slice_get bits j ≡ Some bit) × AreTaken n l bit node.reads × (node.latch ≡ Some j)

-- the graph is that of the net
pub record IsGraphOf (n : NetView) (g : GraphView) : Type 0 where
  pub sound : IsSound n
  pub size : length g.nodes ≡ length n.drivers
  pub nodes : (s : ℕ) (d : Driver) → slice_get n.drivers s ≡ Some d → (node : Node) × (slice_get g.nodes s ≡ Some node) × IsNodeOf n g.skipped d node
  pub latches : g.latches ≡ n.latches
  pub bits : length g.skipped ≡ length n.latches

-- the graph is that of the net, and no self-edge is left out
pub record IsPlainGraphOf (n : NetView) (g : GraphView) : Type 0 where
  pub graph : IsGraphOf n g
  pub plain : NoneSet g.skipped

-- the graph is that of the net, and leaves out the self-edges of the latches that count as enabled in the mode
pub record IsGraphIn (mode : Mode) (n : NetView) (g : GraphView) : Type 0 where
  pub graph : IsGraphOf n g
  pub skips : MarksEnabled mode n g.skipped

-- the nodes are those of a graph of the net that leaves no self-edge out
pub record ArePlainNodes (n : NetView) (nodes : List Node) : Type 0 where
  pub bits : List Bool
  pub plain : IsPlainGraphOf n (record { nodes = nodes; latches = n.latches; skipped = bits })

-- What each graph keeps by itself: a signal reads signals of the graph, a gate lower ones alone, and latches and their
-- signals name each other.
pub record AreNodes (nodes : List Node) (latches : List LatchAt) : Type 0 where
  pub few : length nodes < 2 ^ 32
  pub within : (s k : ℕ) (node : Node) (r : Signal) → slice_get nodes s ≡ Some node → slice_get node.reads k ≡ Some r → r.0 < length nodes
  pub below : (s k : ℕ) (node : Node) (r : Signal) → slice_get nodes s ≡ Some node → node.latch ≡ None → slice_get node.reads k ≡ Some r → r.0 < s
  pub latch : (s j : ℕ) (node : Node) → slice_get nodes s ≡ Some node → node.latch ≡ Some j → (l : LatchAt) × (slice_get latches j ≡ Some l) × (l.out.0 ≡ s)
  pub out : (j : ℕ) (l : LatchAt) → slice_get latches j ≡ Some l → (node : Node) × (slice_get nodes l.out.0 ≡ Some node) × (node.latch ≡ Some j)

-- the names of the latches with a set bit
abbrev pub marked_names : List LatchAt → List Bool → List (List ℕ)
marked_names [] bits = []
marked_names (l ∷ ls) [] = []
marked_names (l ∷ ls) (true ∷ bits) = l.name ∷ marked_names ls bits
marked_names (l ∷ ls) (false ∷ bits) = marked_names ls bits

-- the signals of the latches at these positions
abbrev pub signals_at : List LatchAt → List ℕ → List ℕ
signals_at latches places = map (λ j. (slice_index_or latches j no_latch).out.0) places

-- what a signal adds to the depth of what it reads: a latch 1
abbrev pub step_of : Option ℕ → ℕ
step_of None = 0
step_of (Some j) = 1
