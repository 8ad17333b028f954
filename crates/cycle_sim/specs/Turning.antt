-- Some of a net's gates, by their positions.
use Rattle.std.specs.Prelude.{◌≡◌, ℕ, ◌<◌, Bool, List, length, slice_get, Some, Contains}
use Rattle.flat_net.specs.declared.parts.Gate.{Gate}
use Rattle.flat_net.specs.View.{NetView}
use Rattle.cycle_sim.specs.Steps.{IsRight, AreInputsRight, AreLatchesRight, AreAsideRight}

abbrev pub ArePlaces : NetView → List ℕ → Type 0
ArePlaces n gates = (k j : ℕ) → slice_get gates k ≡ Some j → j < length n.gates

-- one of these gates drives the signal
pub record IsOutOfSome (n : NetView) (gates : List ℕ) (p : ℕ) : Type 0 where
  pub position : ℕ
  pub gate : Gate
  pub among : Contains gates position
  pub here : slice_get n.gates position ≡ Some gate
  pub out : gate.out.0 ≡ p

-- the list has v's values of the inputs, the latches, what doesn't lead back to a signal, and what these gates drive
pub record AreSomeRight (n : NetView) (own : ℕ) (gates : List ℕ) (v : ℕ → Bool) (values : List Bool) : Type 0 where
  pub inputs : AreInputsRight n v values
  pub latches : AreLatchesRight n v values
  pub aside : AreAsideRight n own v values
  pub some : (j : ℕ) (g : Gate) → Contains gates j → slice_get n.gates j ≡ Some g → IsRight v values g.out.0
