-- What two circuits are compared by in cycles, whatever their latches read.
use Rattle.std.specs.Prelude.{◌≡◌, [], map}
use Rattle.circuit_theory.specs.declared.Mode.TheVariants.{Plain}
use Rattle.circuit_theory.specs.Interface.{shared_inputs}
use Rattle.base_tables.specs.Table.{AreDistinct}
use Rattle.flat_net.specs.View.{NetView, circuit_of, ports_of}
use Rattle.latch_graph.specs.signal_graph.Graph.{IsGraphIn}
use Rattle.sec_setup.specs.declared.setup.Setup.{Setup}
use Rattle.sec_setup.specs.Setup.{AreColumns}
use Rattle.sec_setup.specs.ports.Pairs.{ArePairsOf, named_pairs, places_of}

-- The graphs are those of the nets, the inputs of both are numbered by the columns, and the pairs are those of their outputs. Latches may
-- lie on cycles.
pub record IsSetting (s : Setup) : Type 0 where
  pub left_graph : IsGraphIn Plain s.left.now s.left_graph.now
  pub right_graph : IsGraphIn Plain s.right.now s.right_graph.now
  pub left_columns : AreColumns s.left.now s.columns s.orders.left s.orders.right
  pub right_columns : AreColumns s.right.now s.columns s.orders.right s.orders.left
  pub distinct : AreDistinct s.columns
  pub pairs : ArePairsOf s.left.now s.right.now s.pairs

-- the same of these nets: the columns are the inputs that they share, and the pairs the outputs of one name
pub record IsSettingOf (a b : NetView) (s : Setup) : Type 0 where
  pub is : IsSetting s
  pub left_is : s.left.now ≡ a
  pub right_is : s.right.now ≡ b
  pub columns_are : s.columns ≡ shared_inputs (ports_of a) (ports_of b)
  pub pairs_are : map places_of s.pairs ≡ named_pairs [] (circuit_of a) (circuit_of b)
