-- The bits of variables by values of their nodes.
use Rattle.std.specs.Prelude.{◌≡◌, ℕ, ◌<◌, Bool, List, length, slice_get, Some, Option}
use Rattle.aig.specs.declared.node.Node.{Node}
use Rattle.aig.specs.declared.node.Node.TheVariants.{Input}

-- of the first so many nodes each that is a variable's has its value under the variable
abbrev pub HasInputBits : List Node → List ℕ → List Bool → (ℕ → Option Bool) → ℕ → Type 0
HasInputBits g nodes values found count = (k n v : ℕ) → k < count → slice_get nodes k ≡ Some n → slice_get g n ≡ Some (Input v) → found v ≡ slice_get values k

-- a bit for each variable, which is its node's value
pub record AreInputBits (g : List Node) (nodes : List ℕ) (values : List Bool) (vars : List ℕ) (bits : List Bool) : Type 0 where
  pub each : length bits ≡ length vars
  pub same : (j k n v : ℕ) → slice_get vars j ≡ Some v → slice_get nodes k ≡ Some n → slice_get g n ≡ Some (Input v) → slice_get bits j ≡ slice_get values k
