-- What an assumption weighs at the places of the variables of pairs.
use Rattle.std.specs.Prelude.{◌≢◌, ◌↔◌, ℕ, ◌<◌, ◌≤◌, List}
use Rattle.std.specs.List.{AllPairs, AllZip, Contains}
use Rattle.circuit_theory.specs.Circuit.{Circuit}
use Rattle.circuit_theory.specs.Tree.{Tree, Unfolds}
use Rattle.sec_base.specs.declared.limits.TheConstants.{MAX_WEIGHT}
use Rattle.sec_setup.specs.ports.Pairs.{NamedPair}
use Rattle.assume_laws.specs.Assume.{HasVariableAt}
use Rattle.assume_queries.specs.assume_functions.assume_places.Gathered.{sum_under}

-- one of both functions of the pair has a variable at the shift
pub record IsReadAt {P Q : Type 0} (a : Circuit P) (b : Circuit Q) (left right : List ℕ) (x : NamedPair P Q) (k : ℕ) : Type 0 where
  pub left_depth : ℕ
  pub right_depth : ℕ
  pub left_tree : Tree ℕ
  pub right_tree : Tree ℕ
  pub left_unfolds : Unfolds a left x.left 0 left_depth left_tree
  pub right_unfolds : Unfolds b right x.right 0 right_depth right_tree
  pub read : HasVariableAt left_tree right_tree k

-- all shifts at which the pair has a variable, each once
pub record ArePairPlaces {P Q : Type 0} (a : Circuit P) (b : Circuit Q) (left right : List ℕ) (x : NamedPair P Q) (places : List ℕ) : Type 0 where
  pub distinct : AllPairs (λ j k. j ≢ k) places
  pub exactly : (k : ℕ) → Contains places k ↔ IsReadAt a b left right x k

-- all at which one of the pairs has a variable, each once, and for each pair its own
pub record ArePlacesOfPairs {P Q : Type 0} (a : Circuit P) (b : Circuit Q) (left right : List ℕ) (pairs : List (NamedPair P Q)) (all : List ℕ) (own : List (List ℕ)) : Type 0 where
  pub distinct : AllPairs (λ j k. j ≢ k) all
  pub exactly : (k : ℕ) → Contains all k ↔ ((x : NamedPair P Q) × Contains pairs x × IsReadAt a b left right x k)
  pub each : AllZip (ArePairPlaces a b left right) pairs own

-- an assumption of this weight weighs more than 2,000,000 at all of them, with one more for each of each pair
pub record IsOverAtPairs {P Q : Type 0} (weight : ℕ) (a : Circuit P) (b : Circuit Q) (left right : List ℕ) (pairs : List (NamedPair P Q)) : Type 0 where
  pub all : List ℕ
  pub own : List (List ℕ)
  pub places : ArePlacesOfPairs a b left right pairs all own
  pub over : MAX_WEIGHT < sum_under weight all own

-- or at most that
pub record IsLightAtPairs {P Q : Type 0} (weight : ℕ) (a : Circuit P) (b : Circuit Q) (left right : List ℕ) (pairs : List (NamedPair P Q)) : Type 0 where
  pub all : List ℕ
  pub own : List (List ℕ)
  pub places : ArePlacesOfPairs a b left right pairs all own
  pub light : sum_under weight all own ≤ MAX_WEIGHT
