-- Which places a walk from one place comes to, whatever runs it is of, as a list in an order of evaluation.
use Rattle.std.specs.Prelude.{◌≢◌, ℕ, ◌+◌, ◌<◌, List, length, All, Contains}
use Rattle.std.specs.List.{AllPairs, sum_by}
use Rattle.circuit_theory.specs.Circuit.{Circuit}
use Rattle.flat_net.specs.View.{NetView, circuit_of}
use Rattle.aig.specs.declared.node.Lit.{Lit}
use Rattle.flat_net.specs.Weights.{weight_at}
use Rattle.cbf_unfold.specs.unfold_places.Places.{Steps, PlaceBefore}
use Rattle.cbf_unfold.specs.unfold_places.Reach.{IsThere}

-- from the start on to what each place reads
pub data Comes (c : Circuit ℕ) (start : ℕ × ℕ) : ℕ × ℕ → Type 0 where
  itself : Comes c start start
  reads : {p q : ℕ × ℕ} → Comes c start p → Steps c p q → Comes c start q

-- Places that the walk comes to, less than `cap` cycles before its start. Where it starts, and each that a place of the list reads, is
-- one of them or has been met.
pub record AreWalked (n : NetView) (memo : List ((ℕ × ℕ) × Lit)) (start : ℕ × ℕ) (cap : ℕ) (places : List (ℕ × ℕ)) : Type 0 where
  pub root : IsThere memo places start
  pub closed : (p q : ℕ × ℕ) → Contains places p → Steps (circuit_of n) p q → IsThere memo places q
  pub comes : (p : ℕ × ℕ) → Contains places p → Comes (circuit_of n) start p
  pub within : All (λ p. p.1 < length n.drivers) places
  pub late : (p : ℕ × ℕ) → Contains places p → start.0 < p.0 + cap

-- The same in an order of evaluation: what a place reads stands before it, if it hasn't been met.
pub record IsWalk (n : NetView) (memo : List ((ℕ × ℕ) × Lit)) (start : ℕ × ℕ) (cap : ℕ) (places : List (ℕ × ℕ)) : Type 0 where
  pub are : AreWalked n memo start cap places
  pub ordered : AllPairs PlaceBefore places

-- Some distinct places that the walk comes to weigh more than the cap.
pub record IsTooLong (n : NetView) (start : ℕ × ℕ) (cap : ℕ) : Type 0 where
  pub places : List (ℕ × ℕ)
  pub differ : AllPairs (λ p q. p ≢ q) places
  pub comes : (p : ℕ × ℕ) → Contains places p → Comes (circuit_of n) start p × (p.1 < length n.drivers)
  pub total : cap < sum_by (λ p. weight_at n p.1) places
