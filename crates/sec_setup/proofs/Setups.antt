-- The parts of a setup fit together.
use Rattle.std.proofs.Common.{◌≡◌, ℕ, ◌+◌, ◌<◌, ◌≤◌, ◌^◌, List, ◌++◌, map, length, sym, ◌∙◌, ap, subst, arith, length-append}
use Rattle.std.specs.List.{Contains}
use Rattle.circuit_theory.specs.Interface.{shared_inputs}
use Rattle.base_tables.specs.Table.{AreDistinct}
use Rattle.sec_setup.specs.ports.sec_base.Orders.{Orders}
use Rattle.sec_setup.specs.ports.flat_net.Comparable.{IsComparable}
use Rattle.sec_setup.specs.ports.flat_net.Sound.{IsSound}
use Rattle.sec_setup.specs.ports.flat_net.View.{NetView, circuit_of, ports_of}
use Rattle.sec_setup.specs.declared.cut_points.exposed.Exposure.{Exposure}
use Rattle.sec_setup.specs.declared.ports.pairs.SignalPair.{SignalPair}
use Rattle.sec_setup.specs.ports.Numbered.{AreNumbered}
use Rattle.sec_setup.specs.Cuts.{AreCutOpen, AreCutBy, AreCutAt, columns_of, is_cut}
use Rattle.sec_setup.specs.Matching.{InterfacesMatch}
use Rattle.sec_setup.specs.Setup.{AreColumns}
use Rattle.sec_setup.proofs.ports.Columns.{cut_few, left_read, names_few, right_read}
use Rattle.sec_setup.proofs.ports.Numbering.{few_shared}
use Rattle.sec_setup.proofs.ports.Shared.{are_matched}

module _ (a b m k : NetView) (e : Exposure) (chosen : AreCutOpen a b e) (cut : AreCutBy a b e m k) where
  -- the nets are cut at the chosen names
  pub cut_at : AreCutAt a b e.names m k
  cut_at = record {
    left = e.left;
    right = e.right;
    in_order = chosen.in_order;
    left_within = chosen.left.within;
    right_within = chosen.right.within;
    left_names = chosen.left.named;
    right_names = chosen.right.named;
    left_cut = cut.left;
    right_cut = cut.right;
    left_circuit = cut.left_circuit;
    right_circuit = cut.right_circuit;
  }

  -- there are numbers enough
  pub few_numbers : IsSound a → IsSound b → IsComparable a → IsComparable b → (shared table : List (List ℕ)) → shared ≡ shared_inputs (ports_of a) (ports_of b) → table ≡ shared ++ e.names →
      length table + length m.inputs + length k.inputs < 2 ^ 32
  few_numbers sa sb ca cb shared table shared_is table_is =
      let few = few_shared a b shared shared_is in
      let names = names_few a m sa e.names e.left cut.left chosen.left in
      let left = cut_few a m sa e.names e.left cut.left chosen.left ca.few in
      let right = cut_few b k sb e.names e.right cut.right chosen.right cb.few in
      let count : length table ≡ length shared + length e.names = ap length table_is ∙ length-append shared e.names in
      omega (arith, few, names, left, right, count, ca.few)

  -- the numbers of the inputs, with what is read
  module _ (matches : InterfacesMatch a b) (orders : Orders) (columns shared : List (List ℕ)) (columns_are : columns ≡ shared ++ e.names) (shared_is : shared ≡ shared_inputs (ports_of a) (ports_of b)) (numbered : AreNumbered m k columns orders) where
    pub all_columns : columns ≡ columns_of a b e.names
    all_columns = columns_are ∙ ap (λ (ss : List (List ℕ)). ss ++ e.names) shared_is

    pub left_columns : AreColumns m columns orders.left orders.right
    left_columns = record {
      numbers = numbered.left;
      read = λ name h. subst (λ (cs : List (List ℕ)). Contains cs name) (sym all_columns) (left_read a b m e.names e.left cut.left chosen.left name h);
    }

    pub right_columns : AreColumns k columns orders.right orders.left
    right_columns = record {
      numbers = numbered.right;
      read = λ name h. subst (λ (cs : List (List ℕ)). Contains cs name) (sym all_columns) (right_read a b k e.names e.right (are_matched (ports_of a) (ports_of b) matches) cut.right chosen.right name h);
    }
