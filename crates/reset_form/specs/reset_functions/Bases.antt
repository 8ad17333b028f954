-- The numbers of the latches' variables.
use Rattle.std.specs.Prelude.{◌≡◌, ◌+◌, ◌^◌, ◌<◌, ◌≤◌, length, All}
use Rattle.sec_setup.specs.declared.setup.Setup.{Setup}
use Rattle.cbf_unfold.specs.unfold_places.InputOrder.{IsOrderOf}
use Rattle.reset_form.specs.declared.reset_functions.bases.Bases.{Bases}
use Rattle.reset_form.specs.declared.reset_functions.functions.Part.{Part}

-- A's are above the numbers of all inputs and of all columns, B's above A's, and all are below 2^31
pub record AreBases (s : Setup) (b : Bases) : Type 0 where
  pub left_inputs : All (λ i. i < b.left) s.orders.left
  pub right_inputs : All (λ i. i < b.left) s.orders.right
  pub columns : length s.columns ≤ b.left
  pub right_is : b.right ≡ b.left + length s.left.now.latches
  pub room : b.right + length s.right.now.latches < 2 ^ 31

-- the numbers of one circuit's variables
pub record IsPart (p : Part) : Type 0 where
  pub order : IsOrderOf p.net.now p.order.now
  pub base : All (λ i. i < p.base) p.order.now
  pub room : p.base + length p.net.now.latches < 2 ^ 31
