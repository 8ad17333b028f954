-- Event nodes by their places in the order of variables.
use Rattle.std.specs.Prelude.{◌≡◌, ℕ, ◌<◌, ◌≤◌, List, length, slice_get, Some}
use Rattle.event_nodes.specs.Nodes.{path_of}
use Rattle.event_nodes.specs.event_variables.Variables.{PathBefore}
use Rattle.event_nodes.specs.declared.event_variables.ranked_nodes.ranks.RankedNodes.{RankedNodes}

-- the input 0 at each of so many nodes, in order
pub record HasZeros (count : ℕ) (places : List (ℕ × ℕ)) : Type 0 where
  pub each : length places ≡ count
  pub at : (n : ℕ) → n < count → slice_get places n ≡ Some (0, n)

-- The event nodes in their order: longer paths first, then by path in the order of class numbers. Each node has its place among them.
pub record AreRanked (children : List (ℕ × ℕ)) (r : RankedNodes) : Type 0 where
  pub within : (i n : ℕ) → slice_get r.nodes i ≡ Some n → n ≤ length children
  pub in_order : (i j m n : ℕ) → i < j → slice_get r.nodes i ≡ Some m → slice_get r.nodes j ≡ Some n → PathBefore (path_of children m) (path_of children n)
  pub there : (n : ℕ) → n ≤ length children → (i : ℕ) × (slice_get r.ranks.items n ≡ Some i) × (slice_get r.nodes i ≡ Some n)
