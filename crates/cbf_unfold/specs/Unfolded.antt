-- When a literal and its variables are the unfolding of a signal, and when what an unfolder keeps is right for a graph
-- and a table.
use Rattle.std.specs.Prelude.{◌≡◌, ℕ, ◌-◌, ◌*◌, ◌<◌, ◌≤◌, List, [], ◌∷◌, length, All, Contains}
use Rattle.std.specs.List.{AllZip, sum_by}
use Rattle.circuit_theory.specs.Tree.{Tree, Unfolds}
use Rattle.circuit_theory.specs.Query.{Variable, AreVariables, ShiftBefore}
use Rattle.circuit_theory.specs.Sizes.{Visits, IsWeight}
use Rattle.sec_base.specs.declared.limits.TheConstants.{MAX_WEIGHT}
use Rattle.flat_net.specs.View.{NetView, circuit_of}
use Rattle.aig.specs.declared.node.Lit.{Lit}
use Rattle.aig.specs.declared.node.Node.{Node}
use Rattle.aig.specs.Builds.{Builds}
use Rattle.cbf_unfold.specs.unfold_places.Places.{IsVisited}
use Rattle.flat_net.specs.Weights.{weight_at}
use Rattle.cbf_unfold.specs.View.{UnfolderView}
use Rattle.cbf_unfold.specs.unfold_places.Planned.{IsPlanned}
pub use Rattle.cbf_unfold.specs.unfold_places.Growing.{IsNumberOf}

-- The literal is that of the signal's tree, and the variables are the tree's leaves, each once: those of a greater shift
-- first, and of one shift by the inputs' numbers.
pub record IsUnfolded (n : NetView) (order : List ℕ) (g : List Node) (places : List (ℕ × ℕ)) (s lit : ℕ) (vars : List ℕ) : Type 0 where
  pub depth : ℕ
  pub tree : Tree ℕ
  pub unfolds : Unfolds (circuit_of n) order s 0 depth tree
  pub builds : Builds g places tree lit
  pub within : lit < 2 * length g
  pub variables : List (Variable ℕ)
  pub are_variables : AreVariables ShiftBefore (tree ∷ []) variables
  pub numbered : AllZip (IsNumberOf places) vars variables

-- the literal is that of the signal's tree
pub record IsLiteralOf (n : NetView) (order : List ℕ) (g : List Node) (places : List (ℕ × ℕ)) (s lit : ℕ) : Type 0 where
  pub depth : ℕ
  pub tree : Tree ℕ
  pub unfolds : Unfolds (circuit_of n) order s 0 depth tree
  pub builds : Builds g places tree lit
  pub within : lit < 2 * length g

-- the literal is that of the tree of the place's signal, as many cycles ago as the place stands before the last
pub record IsKnown (n : NetView) (order : List ℕ) (last : ℕ) (g : List Node) (places : List (ℕ × ℕ)) (p : ℕ × ℕ) (lit : ℕ) : Type 0 where
  pub depth : ℕ
  pub tree : Tree ℕ
  pub unfolds : Unfolds (circuit_of n) order p.1 (last - p.0) depth tree
  pub builds : Builds g places tree lit
  pub within : lit < 2 * length g

-- each literal that the unfolder keeps is right, each place is visited from a signal that was unfolded, the weight is
-- that of the places, and each stands behind those that it reads
pub record Holds (u : UnfolderView) (g : List Node) (places : List (ℕ × ℕ)) : Type 0 where
  pub known : (p : ℕ × ℕ) (x : Lit) → Contains u.memo (p, x) → IsKnown u.net u.order u.cap g places p x.0
  pub visited : (p : ℕ × ℕ) (x : Lit) → Contains u.memo (p, x) → IsVisited (circuit_of u.net) u.cap u.done p
  pub within : All (λ s. s < length u.net.drivers) u.done
  pub counted : sum_by (λ e. weight_at u.net e.0.1) u.memo ≡ u.weight
  pub planned : IsPlanned (circuit_of u.net) u.memo

-- What an unfolder keeps is right for the graph and the table, and it has met exactly the places that the unfoldings of
-- the signals unfolded so far visit. These weigh together no more than the limit.
pub record Fits (u : UnfolderView) (g : List Node) (places : List (ℕ × ℕ)) : Type 0 where
  pub holds : Holds u g places
  pub met : (s q j : ℕ) → Contains u.done s → Visits (circuit_of u.net) s 0 q j → (j ≤ u.cap) × ((x : Lit) × Contains u.memo ((u.cap - j, q), x))
  pub weighs : IsWeight (circuit_of u.net) u.done u.weight
  pub limit : u.cap ≡ MAX_WEIGHT
  pub small : u.weight ≤ MAX_WEIGHT
