-- What a sweep gives.
use Rattle.std.specs.Prelude.{◌≡◌, ℕ, ◌*◌, ◌<◌, Bool, List, length, slice_get, Some, Contains}
use Rattle.aig.specs.declared.node.Lit.{Lit}
use Rattle.aig.specs.declared.node.Node.{Node}
use Rattle.aig.specs.declared.node.Node.TheVariants.{Input}
use Rattle.aig.specs.Graph.{vars_of}
use Rattle.aig.specs.Values.{value}
use Rattle.swept_queries.specs.declared.sweep.graph.Swept.{Swept}
use Rattle.swept_queries.specs.node_agreement.Agreeing.{Agree}
use Rattle.swept_queries.specs.node_agreement.Leads.{HasFewInputs}
use Rattle.swept_queries.specs.node_agreement.Standing.{literal_in}

-- the second graph has inputs for variables of the first alone
abbrev pub HasNoOtherInputs : List Node → List Node → Type 0
HasNoOtherInputs g h = (v : ℕ) → Contains h (Input v) → Contains g (Input v)

-- A literal for each root, with its value under every assignment. Equal roots have equal literals, and where the graph has inputs
-- for at most 16 variables, so have roots that agree.
pub record IsSwept (g : List Node) (roots : List Lit) (s : Swept) : Type 0 where
  pub each : length s.lits ≡ length roots
  pub within : (i : ℕ) (y : Lit) → slice_get s.lits i ≡ Some y → y.0 < 2 * length s.aig
  pub values : (i : ℕ) (x y : Lit) → slice_get roots i ≡ Some x → slice_get s.lits i ≡ Some y → (a : ℕ → Bool) → value s.aig a y.0 ≡ value g a x.0
  pub equal : (i j : ℕ) (x y z : Lit) → slice_get roots i ≡ Some x → slice_get roots j ≡ Some x → slice_get s.lits i ≡ Some y → slice_get s.lits j ≡ Some z → y ≡ z
  pub narrow : HasFewInputs g → (i j : ℕ) (x w y z : Lit) → slice_get roots i ≡ Some x → slice_get roots j ≡ Some w → Agree g x.0 w.0
      → slice_get s.lits i ≡ Some y → slice_get s.lits j ≡ Some z → y ≡ z
  pub vars : vars_of s.aig ≡ vars_of g
  pub inputs : HasNoOtherInputs g s.aig

-- each literal of the list is the one for the literal at its place
pub record AreLiteralsFor (lits leads made : List Lit) : Type 0 where
  pub each : length made ≡ length leads
  pub is : (i : ℕ) (x y : Lit) → slice_get leads i ≡ Some x → slice_get made i ≡ Some y → y.0 ≡ literal_in lits x.0
