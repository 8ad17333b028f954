-- The numbers of the inputs.
use Rattle.std.specs.Prelude.{◌≡◌, ℕ, ◌<◌, ◌≤◌, Bool, true, false, not, ◌&&◌, List, length, Some, slice_get}
use Rattle.circuit_theory.specs.Names.{is_among}
use Rattle.circuit_theory.specs.Interface.{Ports, is_clock, AreNumbersOf}
use Rattle.flat_net.specs.Orders.{Orders}
use Rattle.flat_net.specs.View.{NetView, ports_of}

-- an input of this name stays: it is read, or it isn't the other's clock
abbrev pub stays : Ports → Ports → List ℕ → Bool
stays own other name = not (is_clock other name && not (is_among own.read name))

-- A name among the shared ones has its place there as its number; each other a number of its own in this range, rising.
pub record AreNumbers (names shared : List (List ℕ)) (from to : ℕ) (numbers : List ℕ) : Type 0 where
  pub each : length numbers ≡ length names
  pub ordered : from ≤ to
  pub known : (k i : ℕ) (name : List ℕ) → slice_get names k ≡ Some name → slice_get numbers k ≡ Some i → is_among shared name ≡ true → slice_get shared i ≡ Some name
  pub others : (k i : ℕ) (name : List ℕ) → slice_get names k ≡ Some name → slice_get numbers k ≡ Some i → is_among shared name ≡ false → (from ≤ i) × (i < to)
  pub rising : (j k h i : ℕ) (first second : List ℕ) → j < k → slice_get names j ≡ Some first → slice_get names k ≡ Some second → slice_get numbers j ≡ Some h → slice_get numbers k ≡ Some i →
      is_among shared first ≡ false → is_among shared second ≡ false → h < i

-- the numbers of the inputs of both nets, where the columns have their places as numbers
pub record AreNumbered (a b : NetView) (columns : List (List ℕ)) (orders : Orders) : Type 0 where
  pub left : AreNumbersOf (ports_of a).inputs columns orders.left orders.right
  pub right : AreNumbersOf (ports_of b).inputs columns orders.right orders.left
