-- What each latch graph keeps.
use Rattle.std.specs.Prelude.{◌≡◌, ℕ, List, slice_get, Some}
use Rattle.signal_graph.specs.declared.nodes.Node.{Node}
use Rattle.latch_graph.specs.declared.states.State.{State}
use Rattle.latch_graph.specs.declared.states.State.TheVariants.{Removed}
use Rattle.latch_graph.specs.Settling.{IsSettled}

-- the states that the whole graph gives its nodes
pub record IsKept (nodes : List Node) (states : List State) : Type 0 where
  pub settled : IsSettled nodes states
  pub whole : (s : ℕ) → slice_get states s ≡ Some Removed → ⊥
