-- What two circuits are compared by.
use Rattle.std.specs.Prelude.{◌≡◌, ℕ, List, map, length}
use Rattle.std.specs.List.{Contains}
use Rattle.circuit_theory.specs.declared.Mode.{Mode}
use Rattle.circuit_theory.specs.declared.Mode.TheVariants.{Plain}
use Rattle.circuit_theory.specs.Interface.{shared_inputs, AreNumbersOf}
use Rattle.base_tables.specs.Table.{AreDistinct}
use Rattle.sec_setup.specs.ports.flat_net.View.{NetView, circuit_of, ports_of}
use Rattle.latch_graph.specs.Graph.{IsGraphIn}
use Rattle.sec_setup.specs.declared.nets.Nets.{Nets}
use Rattle.sec_setup.specs.declared.setup.Setup.{Setup}
use Rattle.sec_setup.specs.Cuts.{AreCutAt, columns_of}
use Rattle.sec_setup.specs.Cycles.{IsAcyclic}
use Rattle.sec_setup.specs.ports.Pairs.{ArePairsOf, named_pairs, places_of}

-- the graphs are those of the nets in this mode: in the event mode without the self-edges of enabled latches
pub record AreGraphedIn (mode : Mode) (n : Nets) : Type 0 where
  pub left : IsGraphIn mode n.left.now n.left_graph.now
  pub right : IsGraphIn mode n.right.now n.right_graph.now

-- the same in the plain mode
abbrev pub AreGraphed : Nets → Type 0
AreGraphed n = AreGraphedIn Plain n

-- the numbers of the net's inputs: those of the named columns have their places there, and whatever is read is a column
pub record AreColumns (n : NetView) (columns : List (List ℕ)) (own others : List ℕ) : Type 0 where
  pub numbers : AreNumbersOf (ports_of n).inputs columns own others
  pub read : (name : List ℕ) → Contains (ports_of n).read name → Contains columns name

-- What each form may rely on: the graphs are those of the nets and have no cycle, the inputs of both are numbered by the columns, and
-- the pairs are those of their outputs.
pub record IsSetup (s : Setup) : Type 0 where
  pub left_graph : IsGraphIn Plain s.left.now s.left_graph.now
  pub right_graph : IsGraphIn Plain s.right.now s.right_graph.now
  pub left_acyclic : IsAcyclic s.left.now
  pub right_acyclic : IsAcyclic s.right.now
  pub left_columns : AreColumns s.left.now s.columns s.orders.left s.orders.right
  pub right_columns : AreColumns s.right.now s.columns s.orders.right s.orders.left
  pub distinct : AreDistinct s.columns
  pub pairs : ArePairsOf s.left.now s.right.now s.pairs

-- The setup of a comparison of two nets: its nets are these with the exposed latches cut out, its columns the shared inputs and the
-- exposed latches, and its pairs the outputs of one name, then what the exposed latches take over.
pub record IsSetupOf (a b : NetView) (s : Setup) : Type 0 where
  pub is : IsSetup s
  pub are_cut : AreCutAt a b s.exposed s.left.now s.right.now
  pub inputs : s.inputs ≡ length (shared_inputs (ports_of a) (ports_of b))
  pub columns : s.columns ≡ columns_of a b s.exposed
  pub pairs : map places_of s.pairs ≡ named_pairs s.exposed (circuit_of a) (circuit_of b)
