-- The pairs that are compared.
use Rattle.std.specs.Prelude.{◌≡◌, ℕ, ◌<◌, List, ◌++◌, map, length, Some, slice_get, All}
use Rattle.std.specs.List.{AllZip}
use Rattle.circuit_theory.specs.Agree.{place_named}
use Rattle.flat_net.specs.Table.{AreDistinct}
use Rattle.flat_net.specs.declared.parts.Port.{Port}
use Rattle.flat_net.specs.Cut.{latch_at, exposed_names}
use Rattle.flat_net.specs.View.{NetView, circuit_of}
use Rattle.witness_report.specs.declared.witness.PairName.TheVariants as pair
use Rattle.sec_setup.specs.declared.ports.pairs.SignalPair.{SignalPair}

-- the latches at these positions have these names, and no position stands twice
pub record AreNamedAt (n : NetView) (names : List (List ℕ)) (positions : List ℕ) : Type 0 where
  pub within : All (λ j. j < length n.latches) positions
  pub distinct : AreDistinct positions
  pub named : exposed_names n positions ≡ names

-- an output of A, and B's output of its name
pub record IsOutputPair (b : NetView) (port : Port) (p : SignalPair) : Type 0 where
  pub name_is : p.name ≡ pair.Output port.name
  pub left_is : p.left ≡ port.signal
  pub right_is : place_named (circuit_of b).outputs port.name ≡ Some p.right.0

-- what the latches at two positions take over, under their name
pub record IsNextPair (a b : NetView) (name : List ℕ) (i j : ℕ) (p : SignalPair) : Type 0 where
  pub name_is : p.name ≡ pair.Next name
  pub left_is : p.left ≡ (latch_at a i).next
  pub right_is : p.right ≡ (latch_at b j).next

-- the pair at one place of the exposed latches
pub record IsNextPairAt (a b : NetView) (names : List (List ℕ)) (left right : List ℕ) (k : ℕ) (p : SignalPair) : Type 0 where
  pub name : List ℕ
  pub i : ℕ
  pub j : ℕ
  pub name_at : slice_get names k ≡ Some name
  pub left_at : slice_get left k ≡ Some i
  pub right_at : slice_get right k ≡ Some j
  pub is : IsNextPair a b name i j p

-- one pair for each exposed latch, in order
pub record AreNextPairs (a b : NetView) (names : List (List ℕ)) (left right : List ℕ) (pairs : List SignalPair) : Type 0 where
  pub names_are : map (λ (p : SignalPair). p.name) pairs ≡ map (λ name. pair.Next name) names
  pub left_are : map (λ (p : SignalPair). p.left) pairs ≡ map (λ i. (latch_at a i).next) left
  pub right_are : map (λ (p : SignalPair). p.right) pairs ≡ map (λ j. (latch_at b j).next) right

-- one pair for each output of A, then one for each exposed latch
pub record ArePairs (a b : NetView) (names : List (List ℕ)) (left right : List ℕ) (pairs : List SignalPair) : Type 0 where
  pub outputs : List SignalPair
  pub nexts : List SignalPair
  pub pairs_are : pairs ≡ outputs ++ nexts
  pub outputs_are : AllZip (IsOutputPair b) a.outputs outputs
  pub nexts_are : AreNextPairs a b names left right nexts
