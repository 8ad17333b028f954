-- The order of a net's signals.
use Rattle.std.specs.Prelude.{◌≡◌, ◌+◌, ℕ, List, length, slice_get, Some}
use Rattle.flat_net.specs.declared.parts.Port.{Port}
use Rattle.flat_net.specs.declared.parts.Gate.{Gate}
use Rattle.flat_net.specs.declared.parts.LatchAt.{LatchAt}
use Rattle.flat_net.specs.View.{NetView}

abbrev pub AreInputsLaid : List Port → Type 0
AreInputsLaid ports = (i : ℕ) (p : Port) → slice_get ports i ≡ Some p → p.signal.0 ≡ i

abbrev pub AreLatchesLaid : ℕ → List LatchAt → Type 0
AreLatchesLaid first latches = (j : ℕ) (l : LatchAt) → slice_get latches j ≡ Some l → l.out.0 ≡ first + j

abbrev pub AreGatesLaid : ℕ → List Gate → Type 0
AreGatesLaid first gates = (k : ℕ) (g : Gate) → slice_get gates k ≡ Some g → g.out.0 ≡ first + k

-- the signals of the net are its inputs, then its latches, then its gates, each in their order
pub record IsLaid (n : NetView) : Type 0 where
  pub whole : length n.drivers ≡ length n.inputs + length n.latches + length n.gates
  pub inputs : AreInputsLaid n.inputs
  pub latches : AreLatchesLaid (length n.inputs) n.latches
  pub gates : AreGatesLaid (length n.inputs + length n.latches) n.gates
