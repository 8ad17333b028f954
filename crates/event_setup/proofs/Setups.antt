-- The parts of a setup fit together.
use Rattle.std.proofs.Common.{◌≡◌, ◌≢◌, ℕ, ◌+◌, ◌<◌, ◌^◌, Bool, true, List, ◌++◌, length, Some, sym, ◌∙◌, ap, subst, arith, inl, inr, length-append}
use Rattle.std.specs.Prelude.{◌⊎◌}
use Rattle.std.specs.List.{All, AllPairs, AllZip, Contains}
use Rattle.std.proofs.lemmas.Bool.{cases_order}
use Rattle.std.proofs.lemmas.List.Elements.{All-contains}
use Rattle.std.proofs.lemmas.Option.{get_or_from_slice_get, same_Some, slice_get_within}
use Rattle.circuit_theory.specs.declared.Mode.TheVariants.{Event}
use Rattle.circuit_theory.specs.Agree.{IsMinimalCut}
use Rattle.circuit_theory.specs.Interface.{shared_inputs, AreNumbersOf}
use Rattle.circuit_theory.proofs.Lists.{All-from_each, Contains-map, Contains-map_from, length-map}
use Rattle.base_tables.specs.Table.{AreDistinct}
use Rattle.sec_base.specs.declared.basics.Orders.{Orders}
use Rattle.event_nodes.specs.View.{EventCircuitView, IsEventCircuit}
use Rattle.flat_net.specs.declared.parts.Port.{Port}
use Rattle.flat_net.specs.Comparable.{IsComparable}
use Rattle.flat_net.specs.Cut.{IsCutCircuit}
use Rattle.flat_net.specs.Sound.{IsSound}
use Rattle.flat_net.specs.View.{NetView, circuit_of, ports_of}
use Rattle.sec_setup.specs.declared.cut_points.exposed.Exposure.{Exposure}
use Rattle.sec_setup.specs.declared.ports.pairs.SignalPair.{SignalPair}
use Rattle.sec_setup.specs.ports.Numbered.{AreNumbered}
use Rattle.sec_setup.specs.ports.Pairs.{ArePairsOf, outputs_of}
use Rattle.sec_setup.proofs.ports.Columns.{cut_few, left_read, names_few, right_read}
use Rattle.sec_setup.proofs.ports.Numbering.{few_shared}
use Rattle.sec_setup.proofs.ports.Shared.{are_matched}
use Rattle.sec_setup.specs.Choosing.{IsChosenIn}
use Rattle.sec_setup.specs.Cuts.{AreCutAt, columns_of}
use Rattle.sec_setup.specs.Matching.{InterfacesMatch}
use Rattle.sec_setup.specs.Setup.{AreColumns}
use Rattle.event_setup.specs.declared.cutting.CutNets.{CutNets}
use Rattle.event_setup.specs.declared.setup.EventSetup.{EventSetup}
use Rattle.event_setup.specs.Choosing.{AreOpened}
use Rattle.event_setup.specs.Cutting.{AreMarkedCuts}
use Rattle.event_setup.specs.Recovered.{AreMarked}
use Rattle.event_setup.specs.Numbering.{IsBegun, IsOrder}
use Rattle.event_setup.specs.Setup.{HaveDepths, IsEventSetup, IsEventSetupOf, IsPairDepthIn, IsPairWithin, IsSetupBy}

module _ (a b : NetView) (e : Exposure) (opened : AreOpened a b e) (c : CutNets) (cut : AreMarkedCuts a b e c) where
  abbrev m : NetView
  m = c.left.net

  abbrev k : NetView
  k = c.right.net

  pub left_circuit : IsCutCircuit e.names (circuit_of a) (circuit_of m)
  left_circuit = subst (λ (names : List (List ℕ)). IsCutCircuit names (circuit_of a) (circuit_of m)) opened.left.named cut.left.circuit

  pub right_circuit : IsCutCircuit e.names (circuit_of b) (circuit_of k)
  right_circuit = subst (λ (names : List (List ℕ)). IsCutCircuit names (circuit_of b) (circuit_of k)) opened.right.named cut.right.circuit

  -- the nets are cut at the chosen names
  pub cut_at : AreCutAt a b e.names m k
  cut_at = record {
    left = e.left;
    right = e.right;
    in_order = opened.in_order;
    left_within = opened.left.within;
    right_within = opened.right.within;
    left_names = opened.left.named;
    right_names = opened.right.named;
    left_cut = cut.left.parts;
    right_cut = cut.right.parts;
    left_circuit = left_circuit;
    right_circuit = right_circuit;
  }

  -- there are numbers enough
  pub few_numbers : IsSound a → IsSound b → IsComparable a → IsComparable b → (shared table : List (List ℕ)) → shared ≡ shared_inputs (ports_of a) (ports_of b) → table ≡ shared ++ e.names →
      length table + length m.inputs + length k.inputs < 2 ^ 32
  few_numbers sa sb ca cb shared table shared_is table_is =
      let few = few_shared a b shared shared_is in
      let names = names_few a m sa e.names e.left cut.left.parts opened.left in
      let left = cut_few a m sa e.names e.left cut.left.parts opened.left ca.few in
      let right = cut_few b k sb e.names e.right cut.right.parts opened.right cb.few in
      let count : length table ≡ length shared + length e.names = ap length table_is ∙ length-append shared e.names in
      omega (arith, few, names, left, right, count, ca.few)

  -- the numbers of the inputs, with what is read
  module _ (matches : InterfacesMatch a b) (orders : Orders) (columns shared : List (List ℕ)) (columns_are : columns ≡ shared ++ e.names) (shared_is : shared ≡ shared_inputs (ports_of a) (ports_of b)) (numbered : AreNumbered m k columns orders) where
    pub all_columns : columns ≡ columns_of a b e.names
    all_columns = columns_are ∙ ap (λ (ss : List (List ℕ)). ss ++ e.names) shared_is

    pub left_columns : AreColumns m columns orders.left orders.right
    left_columns = record {
      numbers = numbered.left;
      read = λ name h. subst (λ (cs : List (List ℕ)). Contains cs name) (sym all_columns) (left_read a b m e.names e.left cut.left.parts opened.left name h);
    }

    pub right_columns : AreColumns k columns orders.right orders.left
    right_columns = record {
      numbers = numbered.right;
      read = λ name h. subst (λ (cs : List (List ℕ)). Contains cs name) (sym all_columns) (right_read a b k e.names e.right (are_matched (ports_of a) (ports_of b) matches) cut.right.parts opened.right name h);
    }

-- numbers that differ pair by pair stand at one place each
once_each : (xs : List ℕ) → AllPairs (λ i j. i ≢ j) xs → AreDistinct xs
once_each xs apart i j x h k = go (cases_order i j)
  where
    go : (i ≡ j) ⊎ ((i < j) ⊎ (j < i)) → i ≡ j
    go (inl e) = e
    go (inr (inl l)) = absurd (apart i j x l (slice_get_within xs j x k) (get_or_from_slice_get xs i x x h ∙ sym (get_or_from_slice_get xs j x x k)))
    go (inr (inr l)) = absurd (apart j i x l (slice_get_within xs i x h) (get_or_from_slice_get xs j x x k ∙ sym (get_or_from_slice_get xs i x x h)))

-- the numbers of a net's inputs
pub is_order : (n : NetView) (columns : List (List ℕ)) (own others : List ℕ) → AreNumbersOf (ports_of n).inputs columns own others → IsOrder n own
is_order n columns own others numbers = record { each = numbers.each ∙ length-map (λ (p : Port). p.name) n.inputs; once = once_each own numbers.distinct }

-- the pairs of outputs are of signals of the nets
pub pairs_within : (m k : NetView) → IsSound m → IsSound k → (pairs : List SignalPair) → ArePairsOf m k pairs → All (IsPairWithin m k) pairs
pairs_within m k sm sk pairs are = All-from_each (IsPairWithin m k) pairs (λ p h. record {
  left = shown m sm p.left.0 (subst (λ (ss : List ℕ). Contains ss p.left.0) are.left (Contains-map (λ (x : SignalPair). x.left.0) pairs p h));
  right = shown k sk p.right.0 ((are.right p.right.0).0 (Contains-map (λ (x : SignalPair). x.right.0) pairs p h));
})
  where
    shown : (n : NetView) → IsSound n → (s : ℕ) → Contains (outputs_of n) s → s < length n.drivers
    shown n sound s there =
        let port = Contains-map_from (λ (o : Port). o.signal.0) n.outputs s there in
        subst (λ (x : ℕ). x < length n.drivers) port.2 (All-contains (λ (o : Port). o.signal.0 < length n.drivers) n.outputs port.0 sound.outputs port.1)

-- a net whose enabled latches are marked is a circuit
pub begun_circuit : (n : NetView) (enabled : List Bool) (order classes : List ℕ) → AreMarked n enabled → IsOrder n order → length classes ≡ length n.latches → IsEventCircuit (record { net = n; enabled = enabled; order = order; classes = classes })
begun_circuit n enabled order classes marked numbers each_class = record {
  marks = record {
    each = marked.each;
    exactly = λ j l bit at bit_at. (λ e. (marked.marks j l at).0 (bit_at ∙ ap Some e), λ on. same_Some bit true (sym bit_at ∙ (marked.marks j l at).1 on));
  };
  each_order = numbers.each;
  order_once = numbers.once;
  each_class = each_class;
}

-- what is known of both nets is known of their circuits
pub is_setup : (s : EventSetup) (m k : NetView) (orders : Orders) → IsBegun m orders.left s.left → IsBegun k orders.right s.right → HaveDepths m → HaveDepths k →
    AreColumns m s.columns orders.left orders.right → AreColumns k s.columns orders.right orders.left → AreDistinct s.columns → ArePairsOf m k s.pairs → AllZip (IsPairDepthIn m k) s.pairs s.depths → IsEventSetup s
is_setup s m k orders left right left_depths right_depths left_columns right_columns distinct pairs depths = record {
  left = record { depths = subst HaveDepths (sym left.net) left_depths; none = left.none };
  right = record { depths = subst HaveDepths (sym right.net) right_depths; none = right.none };
  left_columns = subst (λ (n : NetView). AreColumns n s.columns s.left.order s.right.order) (sym left.net)
      (subst (λ (o : List ℕ). AreColumns m s.columns o s.right.order) (sym left.numbers) (subst (λ (o : List ℕ). AreColumns m s.columns orders.left o) (sym right.numbers) left_columns));
  right_columns = subst (λ (n : NetView). AreColumns n s.columns s.right.order s.left.order) (sym right.net)
      (subst (λ (o : List ℕ). AreColumns k s.columns o s.left.order) (sym right.numbers) (subst (λ (o : List ℕ). AreColumns k s.columns orders.right o) (sym left.numbers) right_columns));
  distinct = distinct;
  pairs = subst (λ (n : NetView). ArePairsOf n s.right.net s.pairs) (sym left.net) (subst (λ (n : NetView). ArePairsOf m n s.pairs) (sym right.net) pairs);
  depths = subst (λ (n : NetView). AllZip (IsPairDepthIn n s.right.net) s.pairs s.depths) (sym left.net) (subst (λ (n : NetView). AllZip (IsPairDepthIn m n) s.pairs s.depths) (sym right.net) depths);
}

-- the nets of the circuits are those that were cut
pub cut_in : (a b m k : NetView) (names : List (List ℕ)) (x y : EventCircuitView) (left right : List ℕ) → IsBegun m left x → IsBegun k right y → AreCutAt a b names m k → AreCutAt a b names x.net y.net
cut_in a b m k names x y left right begun_left begun_right cuts =
    subst (λ (n : NetView). AreCutAt a b names n y.net) (sym begun_left.net) (subst (λ (n : NetView). AreCutAt a b names m n) (sym begun_right.net) cuts)

-- the setup of two nets by the chosen latches
pub chosen_setup : (a b : NetView) (expose : Bool) (e : Exposure) (s : EventSetup) → IsChosenIn Event a b expose e → IsSetupBy a b e s → IsEventSetupOf a b expose s
chosen_setup a b expose e s chosen setup = record {
  is = setup.is;
  minimal = subst (IsMinimalCut Event (circuit_of a) (circuit_of b)) (sym setup.exposed) chosen.cut_open.minimal;
  closed = λ none. setup.exposed ∙ chosen.closed none;
  no_cycles = chosen.broken;
  are_cut = setup.are_cut;
  inputs = setup.inputs;
  columns = setup.columns;
  pairs = setup.pairs;
}
