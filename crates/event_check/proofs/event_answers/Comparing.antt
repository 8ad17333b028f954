-- A setup whose latches have their classes is as a comparison asks.
use Rattle.std.proofs.Common.{◌<◌, ℕ, List, length, map, sym, subst}
use Rattle.std.specs.List.{All, AllZip, Contains}
use Rattle.std.proofs.lemmas.List.Elements.{All-contains}
use Rattle.circuit_theory.specs.Circuit.{Named}
use Rattle.circuit_theory.specs.Interface.{AreNumbersOf}
use Rattle.circuit_theory.specs.Tree.{AreNumbered}
use Rattle.circuit_theory.proofs.Lists.{All-from_each, Contains-map, map-map, zip_weaker}
use Rattle.circuit_laws.proofs.LawProofs.{numbers_are_shared}
use Rattle.base_tables.specs.Table.{AreDistinct}
use Rattle.flat_net.specs.View.{NetView, circuit_of, named, ports_of}
use Rattle.sec_setup.specs.declared.ports.pairs.SignalPair.{SignalPair}
use Rattle.sec_setup.specs.ports.Pairs.{outputs_of}
use Rattle.sec_setup.specs.Setup.{AreColumns}
use Rattle.sec_setup.proofs.ReadInputs.{visited_is_column}
use Rattle.event_nodes.specs.View.{EventCircuitView}
use Rattle.event_form.specs.Asked.{IsPairOf}
use Rattle.event_form.specs.event_findings.event_witness.Sequences.{HasInputsBelow}
use Rattle.event_comparison.specs.EventPairs.{EventPairs}
use Rattle.event_comparison.specs.Compared.{AreCompared, IsEventDepth}
use Rattle.event_setup.specs.declared.setup.EventSetup.{EventSetup}
use Rattle.event_setup.specs.Setup.{IsEventSetup, IsPairDepthIn, IsPairWithin}
use Rattle.event_setup.proofs.Setups.{pairs_within}
use Rattle.event_check.specs.event_answers.Laws.{ArePairsOfSetup, SetupsAreCompared}

-- an input that the unfolding of an output visits has a column
column_named : (n : NetView) (columns : List (List ℕ)) (own others : List ℕ) → AreColumns n columns own others → (s : ℕ) → Contains (outputs_of n) s → HasInputsBelow (circuit_of n) own (length columns) s
column_named n columns own others are s shown q k i visits is = visited_is_column n columns own others are s k q i shown visits is

-- the numbers of a net's inputs are those of its circuit's
circuit_numbers : (n : NetView) (columns : List (List ℕ)) (own others : List ℕ) → AreNumbersOf (ports_of n).inputs columns own others → AreNumbersOf (map (λ (i : Named ℕ). i.name) (circuit_of n).inputs) columns own others
circuit_numbers n columns own others numbers = subst (λ (words : List (List ℕ)). AreNumbersOf words columns own others) (sym (map-map (λ (i : Named ℕ). i.name) named n.inputs)) numbers

module _ (s : EventSetup) (is : IsEventSetup s) (left_classes right_classes : List ℕ) where
  abbrev a : EventCircuitView
  a = record s.left { classes = left_classes }

  abbrev b : EventCircuitView
  b = record s.right { classes = right_classes }

  depth_in : (p : SignalPair) (d : ℕ) → IsPairDepthIn s.left.net s.right.net p d → IsEventDepth a b p d
  depth_in p d h = record { left = h.left; right = h.right; left_is = h.left_is; right_is = h.right_is; greater = h.greater }

  numbers : AreNumbered (circuit_of s.left.net) (circuit_of s.right.net) s.left.order s.right.order
  numbers = numbers_are_shared (circuit_of s.left.net) (circuit_of s.right.net) s.columns s.left.order s.right.order
      (circuit_numbers s.left.net s.columns s.left.order s.right.order is.left_columns.numbers) (circuit_numbers s.right.net s.columns s.right.order s.left.order is.right_columns.numbers)

  left_shown : (p : SignalPair) → Contains s.pairs p → Contains (outputs_of s.left.net) p.left.0
  left_shown p h = subst (λ (ss : List ℕ). Contains ss p.left.0) is.pairs.left (Contains-map (λ (x : SignalPair). x.left.0) s.pairs p h)

  right_shown : (p : SignalPair) → Contains s.pairs p → Contains (outputs_of s.right.net) p.right.0
  right_shown p h = (is.pairs.right p.right.0).0 (Contains-map (λ (x : SignalPair). x.right.0) s.pairs p h)

  pub compared : (c : EventPairs) → ArePairsOfSetup s c → AreCompared a b c
  compared c of = record {
    depths_are = subst (λ (ds : List ℕ). AllZip (IsEventDepth a b) c.pairs.now ds) (sym of.depths) (subst (λ (ps : List SignalPair). AllZip (IsEventDepth a b) ps s.depths) (sym of.pairs) (zip_weaker (IsPairDepthIn s.left.net s.right.net) (IsEventDepth a b) depth_in s.pairs s.depths is.depths));
    numbers = numbers;
    left_named = subst (λ (ns : List (List ℕ)). All (λ (p : SignalPair). HasInputsBelow (circuit_of s.left.net) s.left.order (length ns) p.left.0) c.pairs.now) (sym of.names)
        (subst (λ (ps : List SignalPair). All (λ (p : SignalPair). HasInputsBelow (circuit_of s.left.net) s.left.order (length s.columns) p.left.0) ps) (sym of.pairs)
        (All-from_each (λ (p : SignalPair). HasInputsBelow (circuit_of s.left.net) s.left.order (length s.columns) p.left.0) s.pairs (λ p h. column_named s.left.net s.columns s.left.order s.right.order is.left_columns p.left.0 (left_shown p h))));
    right_named = subst (λ (ns : List (List ℕ)). All (λ (p : SignalPair). HasInputsBelow (circuit_of s.right.net) s.right.order (length ns) p.right.0) c.pairs.now) (sym of.names)
        (subst (λ (ps : List SignalPair). All (λ (p : SignalPair). HasInputsBelow (circuit_of s.right.net) s.right.order (length s.columns) p.right.0) ps) (sym of.pairs)
        (All-from_each (λ (p : SignalPair). HasInputsBelow (circuit_of s.right.net) s.right.order (length s.columns) p.right.0) s.pairs (λ p h. column_named s.right.net s.columns s.right.order s.left.order is.right_columns p.right.0 (right_shown p h))));
    distinct = subst AreDistinct (sym of.names) is.distinct;
  }

pub setups_compared : SetupsAreCompared
setups_compared s e c sound_left sound_right is given of = (
  subst (All (IsPairOf e)) (sym of.pairs) (All-from_each (IsPairOf e) s.pairs (λ p h. within p (All-contains (IsPairWithin s.left.net s.right.net) s.pairs p (pairs_within s.left.net s.right.net sound_left sound_right s.pairs is.pairs) h))),
  subst (λ (x : EventCircuitView). AreCompared x e.right c) (sym given.left) (subst (λ (x : EventCircuitView). AreCompared (record s.left { classes = e.left.classes }) x c) (sym given.right) (compared s is e.left.classes e.right.classes c of)),
)
  where
    within : (p : SignalPair) → IsPairWithin s.left.net s.right.net p → IsPairOf e p
    within p h = record {
      left = subst (λ (x : EventCircuitView). p.left.0 < length x.net.drivers) (sym given.left) h.left;
      right = subst (λ (x : EventCircuitView). p.right.0 < length x.net.drivers) (sym given.right) h.right;
    }
