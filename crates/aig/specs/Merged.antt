-- Variables in an order, by their numbers.
use Rattle.std.specs.Prelude.{◌≡◌, ◌⊎◌, ◌↔◌, ℕ, ◌<◌, List}
use Rattle.std.specs.List.{All, AllPairs, Contains}
use Rattle.std.specs.declared.cmp.Ordering.{Ordering}
use Rattle.std.specs.declared.cmp.Ordering.TheVariants as ordering

-- what goes before another goes before all that are behind the other
abbrev pub GoesOn : (ℕ → ℕ → Type 0) → Type 0
GoesOn Before = (u v w : ℕ) → Before u v → Before v w → Before u w

-- how two numbers stand to each other in an order of which this is the relation
abbrev pub StandsBy : (ℕ → ℕ → Type 0) → ℕ → ℕ → Ordering → Type 0
StandsBy Before u v ordering.Less = Before u v
StandsBy Before u v ordering.Equal = u ≡ v
StandsBy Before u v ordering.Greater = Before v u

-- numbers below the count, in this order
pub record AreOrdered (count : ℕ) (Before : ℕ → ℕ → Type 0) (vars : List ℕ) : Type 0 where
  pub within : All (λ v. v < count) vars
  pub ordered : AllPairs Before vars

-- the numbers that one of two lists has, in this order
pub record IsMergeBy (Before : ℕ → ℕ → Type 0) (left right merged : List ℕ) : Type 0 where
  pub ordered : AllPairs Before merged
  pub exactly : (v : ℕ) → Contains merged v ↔ (Contains left v ⊎ Contains right v)
