-- Which places the unfolding of a signal in its cycle visits, as a list in an order of evaluation.
use Rattle.std.specs.Prelude.{◌≢◌, ℕ, ◌<◌, List, [], All, Contains}
use Rattle.std.specs.List.{AllPairs}
use Rattle.circuit_theory.specs.Circuit.{Circuit}
use Rattle.circuit_laws.specs.reset_laws.Weight.{ResetVisits}
use Rattle.aig.specs.declared.node.Lit.{Lit}
use Rattle.cbf_unfold.specs.unfold_places.Places.{Steps, PlaceBefore}
use Rattle.cbf_unfold.specs.unfold_places.Reach.{IsThere}
use Rattle.reset_form.specs.reset_unfold.Places.{IsLeafAt}

-- Places that the unfolding visits. The signal's own, and each that a place of the list reads, is one of them or has been met.
pub record AreUnmet (c : Circuit ℕ) (size : ℕ) (memo : List ((ℕ × ℕ) × Lit)) (start : ℕ × ℕ) (places : List (ℕ × ℕ)) : Type 0 where
  pub root : IsThere memo places start
  pub closed : (p q : ℕ × ℕ) → Contains places p → Steps c p q → IsThere memo places q
  pub visited : (p : ℕ × ℕ) → Contains places p → ResetVisits c start.1 start.0 p.1 p.0
  pub within : All (λ p. p.1 < size) places

-- Where none has been met, these are exactly the places that the unfolding visits.
abbrev pub AreVisited : Circuit ℕ → ℕ → ℕ × ℕ → List (ℕ × ℕ) → Type 0
AreVisited c size start places = AreUnmet c size [] start places

-- The same in an order of evaluation: what a place reads stands before it, if it hasn't been met.
pub record IsReach (c : Circuit ℕ) (size : ℕ) (memo : List ((ℕ × ℕ) × Lit)) (start : ℕ × ℕ) (places : List (ℕ × ℕ)) : Type 0 where
  pub are : AreUnmet c size memo start places
  pub ordered : AllPairs PlaceBefore places

-- The places for which variables stand, each as its cycle and its variable's number, and none twice.
pub record AreLeavesOf (c : Circuit ℕ) (order : List ℕ) (base : ℕ) (places found : List (ℕ × ℕ)) : Type 0 where
  pub from : (x : ℕ × ℕ) → Contains found x → (p : ℕ) × Contains places (x.0, p) × IsLeafAt c order base (x.0, p) x.1
  pub all : (p : ℕ × ℕ) (number : ℕ) → Contains places p → IsLeafAt c order base p number → Contains found (p.0, number)
  pub differ : AllPairs (λ x y. x ≢ y) found

-- The same of the places that the unfolding of a signal in its cycle visits.
pub record AreLeavesAt (c : Circuit ℕ) (order : List ℕ) (base : ℕ) (start : ℕ × ℕ) (found : List (ℕ × ℕ)) : Type 0 where
  pub from : (x : ℕ × ℕ) → Contains found x → (p : ℕ) × IsLeafAt c order base (x.0, p) x.1 × ResetVisits c start.1 start.0 p x.0
  pub all : (p number j : ℕ) → ResetVisits c start.1 start.0 p j → IsLeafAt c order base (j, p) number → Contains found (j, number)
