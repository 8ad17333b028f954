-- The order of the places that were met.
use Rattle.std.specs.Prelude.{◌≡◌, ℕ, ◌<◌, List, slice_get, Some}
use Rattle.circuit_theory.specs.Circuit.{Circuit}
use Rattle.aig.specs.declared.node.Lit.{Lit}
use Rattle.cbf_unfold.specs.unfold_places.Places.{Steps}

-- Each place stands behind those that it reads, in a cycle that isn't the first.
pub record IsPlanned (c : Circuit ℕ) (memo : List ((ℕ × ℕ) × Lit)) : Type 0 where
  pub early : (i : ℕ) (e : (ℕ × ℕ) × Lit) → slice_get memo i ≡ Some e → 0 < e.0.0
  pub read : (i : ℕ) (e : (ℕ × ℕ) × Lit) (q : ℕ × ℕ) → slice_get memo i ≡ Some e → Steps c e.0 q → (j : ℕ) × (y : Lit) × (j < i) × (slice_get memo j ≡ Some (q, y))
