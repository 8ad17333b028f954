-- The cut nets as circuits whose inputs are numbered.
use Rattle.std.specs.Prelude.{◌≡◌, ℕ, List, length}
use Rattle.std.specs.List.{All}
use Rattle.base_tables.specs.Table.{AreDistinct}
use Rattle.sec_base.specs.declared.basics.Orders.{Orders}
use Rattle.flat_net.specs.View.{NetView}
use Rattle.sec_setup.specs.ports.Numbered.{AreNumbered}
use Rattle.event_nodes.specs.View.{EventCircuitView}
use Rattle.event_setup.specs.declared.circuits.NumberedCircuits.{NumberedCircuits}
use Rattle.event_setup.specs.declared.cutting.CutNets.{CutNets}

-- distinct numbers, one for each input
pub record IsOrder (n : NetView) (order : List ℕ) : Type 0 where
  pub each : length order ≡ length n.inputs
  pub once : AreDistinct order

-- the net as a circuit with these numbers, all of whose latches are of class 0
pub record IsBegun (n : NetView) (order : List ℕ) (e : EventCircuitView) : Type 0 where
  pub net : e.net ≡ n
  pub numbers : e.order ≡ order
  pub none : All (λ k. k ≡ 0) e.classes

-- both nets as circuits, whose inputs have the columns' places as numbers
pub record AreBegun (cut : CutNets) (c : NumberedCircuits) : Type 0 where
  pub orders : Orders
  pub numbered : AreNumbered cut.left.net cut.right.net c.columns orders
  pub left : IsBegun cut.left.net orders.left c.left
  pub right : IsBegun cut.right.net orders.right c.right
