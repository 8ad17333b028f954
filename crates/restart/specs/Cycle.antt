-- What the values of one cycle of a three-valued run are, in place of what is known of them.
use Rattle.std.specs.Prelude.{◌≡◌, ℕ, Bool, List, map, Option, Some, None, slice_get, slice_index_or}
use Rattle.flat_net.specs.declared.parts.Port.{Port}
use Rattle.flat_net.specs.declared.parts.Gate.{Gate}
use Rattle.flat_net.specs.declared.parts.LatchAt.{LatchAt}
use Rattle.flat_net.specs.View.{NetView, cover_of}
use Rattle.circuit_laws.specs.start_laws.Known.{cover_three}

-- each input has its bit of the row, by its column, where there is one
abbrev pub HasInputs : NetView → List ℕ → List Bool → List (Option Bool) → Type 0
HasInputs n columns row values = (i k : ℕ) (port : Port) → slice_get n.inputs i ≡ Some port → slice_get columns i ≡ Some k → slice_index_or values port.signal.0 None ≡ slice_get row k

-- each latch has its value of these
abbrev pub HasLatches : NetView → List (Option Bool) → List (Option Bool) → Type 0
HasLatches n latches values = (j : ℕ) (l : LatchAt) → slice_get n.latches j ≡ Some l → slice_index_or values l.out.0 None ≡ slice_index_or latches j None

-- each gate has the value of its cover
abbrev pub HasGates : NetView → List (Option Bool) → Type 0
HasGates n values = (j : ℕ) (g : Gate) → slice_get n.gates j ≡ Some g → slice_index_or values g.out.0 None ≡ cover_three (cover_of n.covers g) (map (λ f. slice_index_or values f.0 None) g.fanins)

-- the values of a cycle
pub record AreOfCycle (n : NetView) (columns : List ℕ) (row : List Bool) (latches values : List (Option Bool)) : Type 0 where
  pub inputs : HasInputs n columns row values
  pub latches_are : HasLatches n latches values
  pub gates : HasGates n values

-- each latch takes over the value of its data
abbrev pub TakesOver : NetView → List (Option Bool) → List (Option Bool) → Type 0
TakesOver n values latches = (j : ℕ) (l : LatchAt) → slice_get n.latches j ≡ Some l → slice_get latches j ≡ Some (slice_index_or values l.next.0 None)
