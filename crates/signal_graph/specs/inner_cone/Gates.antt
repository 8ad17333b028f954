-- The gates of a latch's cone that lead back to the latch.
use Rattle.std.specs.Prelude.{◌≡◌, ◌⊎◌, ℕ, ◌<◌, List, length, slice_get, Some}
use Rattle.std.specs.List.{Contains}
use Rattle.std.specs.List.Sorted.{IsNonDecreasing}
use Rattle.signal_graph.specs.inner_cone.latch_cone.flat_net.Signal.{Signal}
use Rattle.signal_graph.specs.inner_cone.latch_cone.flat_net.Gate.{Gate}
use Rattle.signal_graph.specs.inner_cone.latch_cone.flat_net.LatchAt.{LatchAt}
use Rattle.signal_graph.specs.inner_cone.latch_cone.flat_net.View.{NetView}
use Rattle.signal_graph.specs.inner_cone.latch_cone.Parts.{gate_at}
use Rattle.signal_graph.specs.inner_cone.Inner.{LeadsAside}

-- Positions of gates in order, with the gate that drives what the latch takes over, and all gates that drive what these read, but for
-- those from which no way leads back to the latch.
pub record AreInnerGates (n : NetView) (l : LatchAt) (gates : List ℕ) : Type 0 where
  pub in_order : IsNonDecreasing gates
  pub within : (k j : ℕ) → slice_get gates k ≡ Some j → j < length n.gates
  pub taken : (j : ℕ) → gate_at n l.next.0 ≡ Some j → Contains gates j ⊎ LeadsAside n l.out.0 l.next.0
  pub closed : (i j : ℕ) (g : Gate) (f : Signal) → Contains gates i → slice_get n.gates i ≡ Some g → Contains g.fanins f → gate_at n f.0 ≡ Some j → Contains gates j ⊎ LeadsAside n l.out.0 f.0
