-- The care of a cycle: the assumption in the first cycles, on a graph.
use Rattle.std.specs.Prelude.{◌≡◌, ◌↔◌, ℕ, ◌*◌, ◌<◌, Bool, true, List, [], ◌∷◌, length, slice_get, Some, Contains}
use Rattle.circuit_theory.specs.Query.{Variable, HasLeaf}
use Rattle.circuit_theory.specs.Tree.{Tree}
use Rattle.flat_net.specs.View.{NetView}
use Rattle.aig.specs.declared.node.Node.{Node}
use Rattle.aig.specs.declared.node.Node.TheVariants.{Input}
use Rattle.aig.specs.Builds.{TakesBits}
use Rattle.aig.specs.Cone.{IsReached}
use Rattle.aig.specs.Values.{value}
use Rattle.cbf_unfold.specs.declared.unfold_places.signal_function.Unfolded.{Unfolded}
use Rattle.cbf_unfold.specs.shift_variables.Variables.{variables_of}
use Rattle.cbf_unfold.specs.shift_variables.cycle_variables.Cycles.{AreInCycles}
use Rattle.assume_laws.specs.Assume.{Assumption, IsAssumption, PlaceUnfolds}
use Rattle.assume_laws.specs.assume_shape.Shape.{assumption_of}
use Rattle.assume_queries.specs.declared.assume_functions.own.OwnFunction.{OwnFunction}
use Rattle.assume_queries.specs.assume_functions.Functions.{IsOwnFunction}
use Rattle.cycle_under.specs.First.{MeetsFirst}

-- this is so of each assumption that the function is of
abbrev pub OfEach : OwnFunction → (Assumption → Type 0) → Type 0
OfEach own P = (n : NetView) (inputs : List ℕ) (output size : ℕ) → IsOwnFunction n inputs output own → IsAssumption (assumption_of n inputs output) size → P (assumption_of n inputs output)

-- the assumption reads the variable in one of so many first cycles
abbrev pub ReadsFirst : Assumption → ℕ → Variable ℕ → Type 0
ReadsFirst c count x = (k : ℕ) × (tree : Tree ℕ) × (k < count) × PlaceUnfolds c.circuit c.order k c.output tree × HasLeaf x tree

-- The literal is 1 exactly where the assumption is met in so many first cycles; it reads none but these variables, which are those that the
-- assumption reads there, in order.
pub record IsCareFirst (c : Assumption) (g : List Node) (places : List (ℕ × ℕ)) (count : ℕ) (u : Unfolded) : Type 0 where
  pub within : u.lit.0 < 2 * length g
  pub care_is : (bits : ℕ → ℕ → Bool) (a : ℕ → Bool) → TakesBits places bits a → (value g a u.lit.0 ≡ true) ↔ MeetsFirst c count bits
  pub reads : (k v : ℕ) → IsReached g (u.lit.0 ∷ []) k → slice_get g k ≡ Some (Input v) → Contains u.vars v
  pub in_order : AreInCycles places u.vars
  pub exactly : (x : Variable ℕ) → Contains (variables_of places u.vars) x ↔ ReadsFirst c count x
