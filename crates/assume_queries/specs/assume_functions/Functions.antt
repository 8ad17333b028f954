-- The function of a net without latches, on a graph of its own and at a place of another graph's variables.
use Rattle.std.specs.Prelude.{◌≡◌, ℕ, ◌+◌, ◌*◌, ◌<◌, ◌≤◌, Bool, List, [], ◌∷◌, length, slice_get, Some}
use Rattle.std.specs.List.{AllZip, Contains}
use Rattle.circuit_theory.specs.Circuit.{IsLatch}
use Rattle.circuit_theory.specs.Query.{Variable, AreVariables, ShiftBefore}
use Rattle.circuit_theory.specs.Tree.{Tree, tree_value}
use Rattle.circuit_theory.specs.Sizes.{IsWeight}
use Rattle.sec_base.specs.declared.limits.TheConstants.{MAX_WEIGHT}
use Rattle.flat_net.specs.View.{NetView, circuit_of}
use Rattle.aig.specs.declared.node.Node.{Node}
use Rattle.aig.specs.declared.node.Node.TheVariants.{Input}
use Rattle.aig.specs.Cone.{IsReached}
use Rattle.aig.specs.Values.{value}
use Rattle.cbf_unfold.specs.declared.unfold_places.signal_function.Unfolded.{Unfolded}
use Rattle.cbf_unfold.specs.Unfolded.{IsUnfolded, IsNumberOf}
use Rattle.cbf_unfold.specs.Laws.{TakesBits}
use Rattle.assume_laws.specs.Assume.{PlaceUnfolds}
use Rattle.assume_queries.specs.declared.assume_functions.own.OwnFunction.{OwnFunction}

-- no signal is a latch
abbrev pub HasNoLatch : NetView → Type 0
HasNoLatch n = (name : List ℕ) (u next : ℕ) → IsLatch (circuit_of n) name u next → ⊥

-- What the signal reads at one place weighs no more than the limit, and the graph and the table have no more nodes, besides the
-- constant, and entries than that.
pub record IsWeighed (n : NetView) (s : ℕ) (g : List Node) (places : List (ℕ × ℕ)) : Type 0 where
  pub weight : ℕ
  pub weighs : IsWeight (circuit_of n) (s ∷ []) weight
  pub nodes : length g ≤ weight + 1
  pub entries : length places ≤ weight
  pub light : weight ≤ MAX_WEIGHT

-- the signal's function, on a graph and a table of its own
pub record IsOwnFunction (n : NetView) (order : List ℕ) (s : ℕ) (own : OwnFunction) : Type 0 where
  pub unfolded : IsUnfolded n order own.aig own.places s own.function.lit.0 own.function.vars
  pub weighed : IsWeighed n s own.aig own.places

-- each number is that in the table of the entry at its position, with this place in place of its own
abbrev pub AreNumbersAt : List (ℕ × ℕ) → ℕ → List (ℕ × ℕ) → List ℕ → Type 0
AreNumbersAt own place places numbers = (u v : ℕ) (p : ℕ × ℕ) → slice_get own u ≡ Some p → slice_get numbers u ≡ Some v → slice_get places v ≡ Some (p.0, place)

-- The literal has the value of the signal's tree whose inputs are read at the place, it reads none but the variables, and these are
-- the leaves of that tree, in their order.
pub record IsAssumedAt (n : NetView) (order : List ℕ) (s place : ℕ) (g : List Node) (places : List (ℕ × ℕ)) (u : Unfolded) : Type 0 where
  pub tree : Tree ℕ
  pub unfolds : PlaceUnfolds (circuit_of n) order place s tree
  pub within : u.lit.0 < 2 * length g
  pub worth : (bits : ℕ → ℕ → Bool) (a : ℕ → Bool) → TakesBits places bits a → value g a u.lit.0 ≡ tree_value bits tree
  pub reads : (k v : ℕ) → IsReached g (u.lit.0 ∷ []) k → slice_get g k ≡ Some (Input v) → Contains u.vars v
  pub variables : List (Variable ℕ)
  pub are_variables : AreVariables ShiftBefore (tree ∷ []) variables
  pub numbered : AllZip (IsNumberOf places) u.vars variables
