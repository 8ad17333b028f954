-- When a literal and its variables are the unfolding of a signal in a cycle, and when what an unfolder keeps is right for a
-- graph and a table.
use Rattle.std.specs.Prelude.{◌≡◌, ℕ, ◌*◌, ◌<◌, ◌≤◌, List, [], ◌∷◌, length, All, Contains}
use Rattle.std.specs.List.{AllZip, sum_by}
use Rattle.circuit_theory.specs.Tree.{Tree}
use Rattle.circuit_theory.specs.Query.{Variable, AreVariables}
use Rattle.circuit_laws.specs.reset_laws.Reset.{ResetUnfolds, CycleBefore}
use Rattle.circuit_laws.specs.reset_laws.Weight.{ResetVisits, IsResetWeight}
use Rattle.sec_base.specs.declared.limits.TheConstants.{MAX_WEIGHT}
use Rattle.flat_net.specs.View.{NetView, circuit_of}
use Rattle.aig.specs.declared.node.Lit.{Lit}
use Rattle.aig.specs.declared.node.Node.{Node}
use Rattle.aig.specs.Builds.{Builds}
use Rattle.flat_net.specs.Weights.{weight_at}
use Rattle.cbf_unfold.specs.unfold_places.Growing.{IsNumberOf}
use Rattle.reset_form.specs.reset_unfold.Places.{IsVisited, starts_of}
use Rattle.reset_form.specs.reset_unfold.View.{ResetView}

-- The literal is that of the signal's tree in the cycle, and the variables are the tree's leaves, each once: those of a lesser
-- cycle first, and of one cycle by their numbers, which are the inputs' and then the latches'.
pub record IsResetUnfolded (n : NetView) (order : List ℕ) (base : ℕ) (g : List Node) (places : List (ℕ × ℕ)) (s cycle lit : ℕ) (vars : List ℕ) : Type 0 where
  pub tree : Tree ℕ
  pub unfolds : ResetUnfolds (circuit_of n) order base s cycle tree
  pub builds : Builds g places tree lit
  pub within : lit < 2 * length g
  pub variables : List (Variable ℕ)
  pub are_variables : AreVariables CycleBefore (tree ∷ []) variables
  pub numbered : AllZip (IsNumberOf places) vars variables

-- the literal is that of the tree of the place's signal in its cycle
pub record IsKnown (n : NetView) (order : List ℕ) (base : ℕ) (g : List Node) (places : List (ℕ × ℕ)) (p : ℕ × ℕ) (lit : ℕ) : Type 0 where
  pub tree : Tree ℕ
  pub unfolds : ResetUnfolds (circuit_of n) order base p.1 p.0 tree
  pub builds : Builds g places tree lit
  pub within : lit < 2 * length g

-- each literal that the unfolder keeps is right, each place is visited from a signal that was unfolded, and the weight is
-- that of the places
pub record Holds (u : ResetView) (g : List Node) (places : List (ℕ × ℕ)) : Type 0 where
  pub known : (p : ℕ × ℕ) (x : Lit) → Contains u.memo (p, x) → IsKnown u.net u.order u.base g places p x.0
  pub visited : (p : ℕ × ℕ) (x : Lit) → Contains u.memo (p, x) → IsVisited (circuit_of u.net) u.done p
  pub within : All (λ p. p.1 < length u.net.drivers) u.done
  pub counted : sum_by (λ e. weight_at u.net e.0.1) u.memo ≡ u.weight

-- What an unfolder keeps is right for the graph and the table, and it has met exactly the places that the unfoldings of the
-- signals unfolded so far visit. These weigh together no more than the limit.
pub record FitsReset (u : ResetView) (g : List Node) (places : List (ℕ × ℕ)) : Type 0 where
  pub holds : Holds u g places
  pub met : (s p : ℕ × ℕ) → Contains u.done s → ResetVisits (circuit_of u.net) s.1 s.0 p.1 p.0 → (x : Lit) × Contains u.memo (p, x)
  pub weighs : IsResetWeight (circuit_of u.net) (starts_of u.done) u.weight
  pub limit : u.cap ≡ MAX_WEIGHT
  pub small : u.weight ≤ MAX_WEIGHT
