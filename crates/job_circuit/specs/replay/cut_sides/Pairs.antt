-- The pairs of two circuits with latches cut open, by the places of their outputs.
use Rattle.std.specs.Prelude.{◌≡◌, ℕ, ◌+◌, List, [], ◌++◌, length, map, slice_get, slice_index_or, Some}
use Rattle.circuit_theory.specs.Agree.{place_named}
use Rattle.flat_net.specs.declared.parts.Port.{Port}
use Rattle.flat_net.specs.View.{NetView, circuit_of}
use Rattle.witness_report.specs.declared.witness.PairName.TheVariants as pair
use Rattle.sec_setup.specs.ports.Pairs.{NamedPair}
use Rattle.cycle_sim.specs.pair_runs.Outputs.{output_at}
use Rattle.cycle_sim.specs.declared.pair_runs.differences.OutputPair.{OutputPair}

-- an output of A at this place, and B's output of its name
pub record IsOutputAt (b : NetView) (place : ℕ) (port : Port) (p : OutputPair) : Type 0 where
  pub name_is : p.name ≡ pair.Output port.name
  pub left_is : p.left ≡ place
  pub other : Port
  pub right_at : slice_get b.outputs p.right ≡ Some other
  pub right_is : place_named (circuit_of b).outputs port.name ≡ Some other.signal.0

-- each output of A beside B's output of its name
pub record AreOutputsBeside (a b : NetView) (pairs : List OutputPair) : Type 0 where
  pub each : length pairs ≡ length a.outputs
  pub right : (i : ℕ) (port : Port) (p : OutputPair) → slice_get a.outputs i ≡ Some port → slice_get pairs i ≡ Some p → IsOutputAt b i port p

-- the pair of the k-th of these names, behind so many outputs of A's and of B's own
pub record IsNextAt (names : List (List ℕ)) (left right k : ℕ) (p : OutputPair) : Type 0 where
  pub name : List ℕ
  pub name_at : slice_get names k ≡ Some name
  pub name_is : p.name ≡ pair.Next name
  pub left_is : p.left ≡ left + k
  pub right_is : p.right ≡ right + k

-- so many of the names have their pairs behind these
pub record PutsSome (names : List (List ℕ)) (left right count : ℕ) (old new : List OutputPair) : Type 0 where
  pub nexts : List OutputPair
  pub each : length nexts ≡ count
  pub pairs_are : new ≡ old ++ nexts
  pub right_is : (k : ℕ) (p : OutputPair) → slice_get nexts k ≡ Some p → IsNextAt names left right k p

-- all of them have
abbrev pub PutsNexts : List (List ℕ) → ℕ → ℕ → List OutputPair → List OutputPair → Type 0
PutsNexts names left right old new = PutsSome names left right (length names) old new

-- the outputs in A's order, then one pair for each of the names
pub record ArePairsAt (a b : NetView) (names : List (List ℕ)) (pairs : List OutputPair) : Type 0 where
  pub outputs : List OutputPair
  pub beside : AreOutputsBeside a b outputs
  pub nexts : PutsNexts names (length a.outputs) (length b.outputs) outputs pairs

-- the pair as the places of the cut nets' outputs have it
abbrev pub named_places : NetView → NetView → OutputPair → NamedPair ℕ ℕ
named_places m k p = record { name = p.name; left = (output_at m p.left).signal.0; right = (output_at k p.right).signal.0 }
