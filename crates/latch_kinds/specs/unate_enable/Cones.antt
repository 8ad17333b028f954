-- The cone of a latch.
use Rattle.std.specs.Prelude.{◌≡◌, ◌≢◌, ◌↔◌, ℕ, List, [], ◌++◌, map, slice_get, slice_index_or, Some, Contains}
use Rattle.std.specs.List.Sorted.{IsStrictlyIncreasing}
use Rattle.circuit_theory.specs.Circuit.{Reaches}
use Rattle.flat_net.specs.declared.parts.Port.{Port}
use Rattle.flat_net.specs.declared.parts.LatchAt.{LatchAt}
use Rattle.flat_net.specs.View.{NetView, circuit_of}
use Rattle.flat_net.specs.Cut.{latch_at}
use Rattle.latch_kinds.specs.declared.unate_enable.support.LatchCone.{LatchCone}

-- the signals of a latch, and of what it takes over
abbrev pub out_of_latch : NetView → ℕ → ℕ
out_of_latch n j = (latch_at n j).out.0

abbrev pub data_of_latch : NetView → ℕ → ℕ
data_of_latch n j = (latch_at n j).next.0

-- the signal is reached from what the latch takes over
abbrev pub IsInLatchCone : NetView → ℕ → ℕ → Type 0
IsInLatchCone n j s = Reaches (circuit_of n) (data_of_latch n j) s

-- exactly the inputs and the other latches that are reached from what the latch takes over, each once, increasing
pub record IsConeOfLatch (n : NetView) (j : ℕ) (cone : LatchCone) : Type 0 where
  pub inputs_increasing : IsStrictlyIncreasing cone.inputs
  pub latches_increasing : IsStrictlyIncreasing cone.latches
  pub inputs : (i : ℕ) → Contains cone.inputs i ↔ ((port : Port) × (slice_get n.inputs i ≡ Some port) × IsInLatchCone n j port.signal.0)
  pub latches : (k : ℕ) → Contains cone.latches k ↔ ((k ≢ j) × (l : LatchAt) × (slice_get n.latches k ≡ Some l) × IsInLatchCone n j l.out.0)

-- stands where there is no input
abbrev pub no_port : Port
no_port = record { name = []; signal = record { 0 = 0 } }

abbrev pub input_at : NetView → ℕ → Port
input_at n i = slice_index_or n.inputs i no_port

-- the signals of the cone's inputs and then of its latches: f0 and f1 are functions of these, in this order
abbrev pub places_of : NetView → LatchCone → List ℕ
places_of n cone = map (λ i. (input_at n i).signal.0) cone.inputs ++ map (λ k. (latch_at n k).out.0) cone.latches
