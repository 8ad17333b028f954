-- The pairs of a comparison, as places of two circuits under the pair's name.
use Rattle.std.specs.Prelude.{◌≡◌, ℕ, ◌↔◌, List, ◌++◌, map, Option, Some, None}
use Rattle.std.specs.List.{Contains, filter_map}
use Rattle.circuit_theory.specs.Circuit.{Circuit}
use Rattle.circuit_theory.specs.Agree.{place_named, latch_named, second_of_pair}
use Rattle.flat_net.specs.declared.parts.Port.{Port}
use Rattle.flat_net.specs.View.{NetView}
use Rattle.witness_report.specs.declared.witness.PairName.{PairName}
use Rattle.witness_report.specs.declared.witness.PairName.TheVariants as pair
use Rattle.sec_setup.specs.declared.ports.pairs.SignalPair.{SignalPair}

-- two places that are compared, under the name of the pair
pub record NamedPair (P Q : Type 0) : Type 0 where
  pub name : PairName
  pub left : P
  pub right : Q

-- the pair of two places that are there
abbrev pub pair_called : {P Q : Type 0} → PairName → Option P → Option Q → Option (NamedPair P Q)
pair_called name None q = None
pair_called name (Some p) None = None
pair_called name (Some p) (Some q) = Some (record { name = name; left = p; right = q })

-- The pairs of a comparison in their order, by their names: the outputs in A's order, then what the latches of the exposed names
-- take over. A and B are not cut, so an output and an exposed latch of one name stay apart.
abbrev pub named_pairs : {P Q : Type 0} → List (List ℕ) → Circuit P → Circuit Q → List (NamedPair P Q)
named_pairs exposed a b =
    filter_map (λ o. pair_called (pair.Output o.name) (Some o.place) (place_named b.outputs o.name)) a.outputs
    ++ filter_map (λ name. pair_called (pair.Next name) (second_of_pair (latch_named a.equations name)) (second_of_pair (latch_named b.equations name))) exposed

-- the pair as the circuits' places have it
abbrev pub places_of : SignalPair → NamedPair ℕ ℕ
places_of p = record { name = p.name; left = p.left.0; right = p.right.0 }

abbrev pub outputs_of : NetView → List ℕ
outputs_of n = map (λ (p : Port). p.signal.0) n.outputs

-- the pairs are of the outputs of both nets: of A's in their order, and of no signal of B but its outputs, all of them
pub record ArePairsOf (a b : NetView) (pairs : List SignalPair) : Type 0 where
  pub left : map (λ (p : SignalPair). p.left.0) pairs ≡ outputs_of a
  pub right : (s : ℕ) → Contains (map (λ (p : SignalPair). p.right.0) pairs) s ↔ Contains (outputs_of b) s
