-- What an assumption weighs in the cycles of the variables of pairs.
use Rattle.std.specs.Prelude.{◌≡◌, ◌≢◌, ◌↔◌, ℕ, ◌+◌, ◌*◌, ◌<◌, ◌≤◌, List, length, slice_get, Some}
use Rattle.std.specs.List.{AllPairs, AllZip, Contains, sum_by}
use Rattle.circuit_theory.specs.Fits.{IsPairDepth}
use Rattle.circuit_theory.specs.Tree.{Tree}
use Rattle.circuit_laws.specs.reset_laws.Reset.{ResetUnfolds}
use Rattle.sec_base.specs.declared.limits.TheConstants.{MAX_WEIGHT}
use Rattle.sec_setup.specs.ports.Pairs.{NamedPair}
use Rattle.assume_laws.specs.Assume.{HasVariableAt}
use Rattle.outcome_fits.specs.ResetOutcome.{Numbered}

-- one of both functions of the pair in the cycle t has a variable in the cycle k
pub record IsReadIn (n : Numbered) (x : NamedPair ℕ ℕ) (t k : ℕ) : Type 0 where
  pub left_tree : Tree ℕ
  pub right_tree : Tree ℕ
  pub left_unfolds : ResetUnfolds n.a n.left n.left_base x.left t left_tree
  pub right_unfolds : ResetUnfolds n.b n.right n.right_base x.right t right_tree
  pub read : HasVariableAt left_tree right_tree k

-- all cycles in which they have one, each once
pub record AreCyclePlaces (n : Numbered) (x : NamedPair ℕ ℕ) (t : ℕ) (places : List ℕ) : Type 0 where
  pub distinct : AllPairs (λ j k. j ≢ k) places
  pub exactly : (k : ℕ) → Contains places k ↔ IsReadIn n x t k

-- and so for each cycle up to the pair's depth
pub record ArePairPlaces (n : Numbered) (x : NamedPair ℕ ℕ) (each : List (List ℕ)) : Type 0 where
  pub depth : ℕ
  pub is_depth : IsPairDepth n.a n.b x.left x.right depth
  pub cycles : length each ≡ depth + 1
  pub are : (t : ℕ) (places : List ℕ) → slice_get each t ≡ Some places → AreCyclePlaces n x t places

-- the functions of the pair in some cycle up to its depth have a variable in the cycle k
abbrev pub IsReadUpTo : Numbered → NamedPair ℕ ℕ → ℕ → Type 0
IsReadUpTo n x k = (depth : ℕ) × (t : ℕ) × IsPairDepth n.a n.b x.left x.right depth × (t ≤ depth) × IsReadIn n x t k

-- all cycles in which one of the pairs has a variable, each once, and for each pair its own
pub record ArePlacesOfPairs (n : Numbered) (pairs : List (NamedPair ℕ ℕ)) (all : List ℕ) (own : List (List (List ℕ))) : Type 0 where
  pub distinct : AllPairs (λ j k. j ≢ k) all
  pub exactly : (k : ℕ) → Contains all k ↔ ((x : NamedPair ℕ ℕ) × Contains pairs x × IsReadUpTo n x k)
  pub each : AllZip (ArePairPlaces n) pairs own

-- what an assumption of the weight weighs in all of them, and one for each of each pair in each cycle
abbrev pub sum_in_cycles : ℕ → List ℕ → List (List (List ℕ)) → ℕ
sum_in_cycles weight all own = weight * length all + sum_by (λ each. sum_by length each) own

-- that is more than 2,000,000
pub record IsOverInCycles (weight : ℕ) (n : Numbered) (pairs : List (NamedPair ℕ ℕ)) : Type 0 where
  pub all : List ℕ
  pub own : List (List (List ℕ))
  pub places : ArePlacesOfPairs n pairs all own
  pub over : MAX_WEIGHT < sum_in_cycles weight all own

-- or at most that
pub record IsLightInCycles (weight : ℕ) (n : Numbered) (pairs : List (NamedPair ℕ ℕ)) : Type 0 where
  pub all : List ℕ
  pub own : List (List (List ℕ))
  pub places : ArePlacesOfPairs n pairs all own
  pub light : sum_in_cycles weight all own ≤ MAX_WEIGHT
