-- What an assumption weighs at the event nodes that have variables of pairs.
use Rattle.std.specs.Prelude.{◌≢◌, ◌↔◌, ℕ, ◌+◌, ◌*◌, ◌<◌, ◌≤◌, List, length}
use Rattle.std.specs.List.{AllPairs, AllZip, Contains, sum_by}
use Rattle.circuit_theory.specs.Joined.{Either, Left, Right}
use Rattle.circuit_theory.specs.Frame.{EventSide}
use Rattle.sec_base.specs.declared.limits.TheConstants.{MAX_WEIGHT}
use Rattle.sec_setup.specs.declared.ports.pairs.SignalPair.{SignalPair}
use Rattle.assume_laws.specs.Assume.{HasVariableAtNode}

-- the node has a variable of one of both sides or of their cares
abbrev pub IsReadAt : EventSide (Either ℕ ℕ) → SignalPair → List ℕ → Type 0
IsReadAt s p node = HasVariableAtNode s (Left p.left.0) (Right p.right.0) node

-- all nodes that have a variable of the pair, each once
pub record ArePairNodes (s : EventSide (Either ℕ ℕ)) (p : SignalPair) (nodes : List (List ℕ)) : Type 0 where
  pub distinct : AllPairs (λ m n. m ≢ n) nodes
  pub exactly : (node : List ℕ) → Contains nodes node ↔ IsReadAt s p node

-- all that have one of one of the pairs, each once, and for each pair its own
pub record AreNodesOfPairs (s : EventSide (Either ℕ ℕ)) (pairs : List SignalPair) (all : List (List ℕ)) (own : List (List (List ℕ))) : Type 0 where
  pub distinct : AllPairs (λ m n. m ≢ n) all
  pub exactly : (node : List ℕ) → Contains all node ↔ ((p : SignalPair) × Contains pairs p × IsReadAt s p node)
  pub each : AllZip (ArePairNodes s) pairs own

-- what an assumption of the weight weighs at all of them, and one for each of each pair
abbrev pub sum_at_nodes : ℕ → List (List ℕ) → List (List (List ℕ)) → ℕ
sum_at_nodes weight all own = weight * length all + sum_by length own

-- that is more than 2,000,000
pub record IsOverAtNodes (weight : ℕ) (s : EventSide (Either ℕ ℕ)) (pairs : List SignalPair) : Type 0 where
  pub all : List (List ℕ)
  pub own : List (List (List ℕ))
  pub nodes : AreNodesOfPairs s pairs all own
  pub over : MAX_WEIGHT < sum_at_nodes weight all own

-- or at most that
pub record IsLightAtNodes (weight : ℕ) (s : EventSide (Either ℕ ℕ)) (pairs : List SignalPair) : Type 0 where
  pub all : List (List ℕ)
  pub own : List (List (List ℕ))
  pub nodes : AreNodesOfPairs s pairs all own
  pub light : sum_at_nodes weight all own ≤ MAX_WEIGHT
