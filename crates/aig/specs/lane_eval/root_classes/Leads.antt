-- For each root one that agrees with it.
use Rattle.std.specs.Prelude.{◌≡◌, ℕ, ◌*◌, ◌<◌, ◌≤◌, List, length, slice_get, Some}
use Rattle.aig.specs.declared.node.Lit.{Lit}
use Rattle.aig.specs.declared.node.Node.{Node}
use Rattle.aig.specs.lane_eval.root_classes.Agreeing.{Agree}
use Rattle.aig.specs.lane_eval.root_classes.Inputs.{inputs_of}

-- the graph has inputs for at most 16 variables
abbrev pub HasFewInputs : List Node → Type 0
HasFewInputs g = length (inputs_of g) ≤ 16

-- A literal of the graph for each root, with its value under every assignment. Equal roots have equal literals, and where the graph has
-- inputs for at most 16 variables, so have roots that agree.
pub record AreLeads (g : List Node) (roots leads : List Lit) : Type 0 where
  pub each : length leads ≡ length roots
  pub within : (i : ℕ) (y : Lit) → slice_get leads i ≡ Some y → y.0 < 2 * length g
  pub values : (i : ℕ) (x y : Lit) → slice_get roots i ≡ Some x → slice_get leads i ≡ Some y → Agree g y.0 x.0
  pub equal : (i j : ℕ) (x y z : Lit) → slice_get roots i ≡ Some x → slice_get roots j ≡ Some x → slice_get leads i ≡ Some y → slice_get leads j ≡ Some z → y ≡ z
  pub narrow : HasFewInputs g → (i j : ℕ) (x w y z : Lit) → slice_get roots i ≡ Some x → slice_get roots j ≡ Some w → Agree g x.0 w.0
      → slice_get leads i ≡ Some y → slice_get leads j ≡ Some z → y ≡ z
