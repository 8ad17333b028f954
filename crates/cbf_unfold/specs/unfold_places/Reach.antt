-- Which places the unfolding of a signal visits, as a list in an order of evaluation.
use Rattle.std.specs.Prelude.{◌≡◌, ◌≢◌, ◌⊎◌, ℕ, ◌-◌, ◌<◌, ◌≤◌, List, All, Contains}
use Rattle.std.specs.List.{AllPairs}
use Rattle.circuit_theory.specs.Circuit.{Circuit}
use Rattle.circuit_theory.specs.Tree.{IsInputNumber}
use Rattle.circuit_theory.specs.Sizes.{Visits}
use Rattle.aig.specs.declared.node.Lit.{Lit}
pub use Rattle.aig.specs.Adds.{Adds}
use Rattle.cbf_unfold.specs.unfold_places.Places.{Steps, PlaceBefore}

-- the place has been met
abbrev pub IsMet : List ((ℕ × ℕ) × Lit) → ℕ × ℕ → Type 0
IsMet memo p = (x : Lit) × Contains memo (p, x)

-- the place is one of the list, or has been met
abbrev pub IsThere : List ((ℕ × ℕ) × Lit) → List (ℕ × ℕ) → ℕ × ℕ → Type 0
IsThere memo places p = Contains places p ⊎ IsMet memo p

-- Places that the unfolding of s visits. The signal's own, and each that a place of the list reads, is one of them or has been met.
pub record AreUnmet (c : Circuit ℕ) (size s last : ℕ) (memo : List ((ℕ × ℕ) × Lit)) (places : List (ℕ × ℕ)) : Type 0 where
  pub root : IsThere memo places (last, s)
  pub closed : (p q : ℕ × ℕ) → Contains places p → Steps c p q → IsThere memo places q
  pub visited : (p : ℕ × ℕ) → Contains places p → (p.0 ≤ last) × Visits c s 0 p.1 (last - p.0)
  pub within : All (λ p. (0 < p.0) × (p.1 < size)) places

-- The same in an order of evaluation: what a place reads stands before it, if it hasn't been met.
pub record IsReach (c : Circuit ℕ) (size s last : ℕ) (memo : List ((ℕ × ℕ) × Lit)) (places : List (ℕ × ℕ)) : Type 0 where
  pub are : AreUnmet c size s last memo places
  pub ordered : AllPairs PlaceBefore places

-- The inputs among the places, each as its cycle and its number, and none twice.
pub record AreInputsOf (c : Circuit ℕ) (order : List ℕ) (places found : List (ℕ × ℕ)) : Type 0 where
  pub from : (x : ℕ × ℕ) → Contains found x → (p : ℕ) × Contains places (x.0, p) × IsInputNumber c order p x.1
  pub all : (p : ℕ × ℕ) (number : ℕ) → Contains places p → IsInputNumber c order p.1 number → Contains found (p.0, number)
  pub differ : AllPairs (λ x y. x ≢ y) found

-- The inputs that the unfolding of s visits, each as its cycle and its number.
pub record AreInputsAt (c : Circuit ℕ) (order : List ℕ) (s last : ℕ) (found : List (ℕ × ℕ)) : Type 0 where
  pub from : (x : ℕ × ℕ) → Contains found x → (p : ℕ) × IsInputNumber c order p x.1 × (x.0 ≤ last) × Visits c s 0 p (last - x.0)
  pub all : (p number j : ℕ) → Visits c s 0 p j → IsInputNumber c order p number → (j ≤ last) × Contains found (last - j, number)
