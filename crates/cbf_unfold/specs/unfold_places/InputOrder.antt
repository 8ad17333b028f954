-- The numbers of a net's inputs.
use Rattle.std.specs.Prelude.{◌≡◌, ℕ, List, length}
use Rattle.flat_net.specs.Table.{AreDistinct}
use Rattle.flat_net.specs.View.{NetView}

-- one distinct number for each input of the net
pub record IsOrderOf (n : NetView) (order : List ℕ) : Type 0 where
  pub each : length order ≡ length n.inputs
  pub distinct : AreDistinct order
