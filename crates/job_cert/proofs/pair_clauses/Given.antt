-- What is given where nothing is refused.
use Rattle.std.proofs.Common.{◌≡◌, ℕ, false, List, [], refl, ◌∙◌}
use Rattle.circuit_theory.specs.Interface.{AreNumbersOf, AreOrders}
use Rattle.circuit_theory.proofs.Lists.{length-map}
use Rattle.flat_net.specs.Comparable.{IsComparable}
use Rattle.flat_net.specs.declared.parts.Port.{Port}
use Rattle.flat_net.specs.View.{NetView, circuit_of, ports_of}
use Rattle.cbf_unfold.specs.View.{IsOrderOf}
use Rattle.pair_decide.specs.declared.cnf_encode.cnf.Cnf.{Cnf}
use Rattle.sec_setup.specs.declared.cut_points.exposed.Exposure.{Exposure}
use Rattle.sec_setup.specs.declared.ports.pairs.SignalPair.{SignalPair}
use Rattle.sec_setup.specs.ports.Pairing.{ArePairs}
use Rattle.sec_setup.proofs.ports.NamedPairs.{pairs_cut}
use Rattle.sec_setup.proofs.ports.Shared.{are_matched}
use Rattle.plain_asked.specs.Pairs.{AreLight, left_signals, right_signals}
use Rattle.plain_asked.proofs.Refusals.{left_light, right_light}
use Rattle.sec_setup.specs.Choosing.{IsChosen}
use Rattle.sec_setup.specs.Cuts.{AreCutBy}
use Rattle.sec_setup.specs.Matching.{InterfacesMatch}
use Rattle.sec_setup.specs.ports.Pairs.{ArePairsOf}
use Rattle.sec_setup.proofs.Uncut.{uncut}
use Rattle.cbf_unfold.proofs.shift_variables.Assignments.{once_each}
use Rattle.job_cert.specs.pair_clauses.Clauses.{CanBeUnfolded, TellDifference, AreEncoded, ArePairClauses, IsPairNamed}
use Rattle.job_cert.proofs.pair_clauses.Outputs.{named_outputs}

-- the numbers of a net's inputs
pub is_order : (n : NetView) (shared : List (List ℕ)) (own others : List ℕ) → AreNumbersOf (ports_of n).inputs shared own others → IsOrderOf n own
is_order n shared own others are = record { each = are.each ∙ length-map (λ (p : Port). p.name) n.inputs; distinct = once_each own are.distinct }

-- where no latch is cut open, the pairs are those of the outputs
pub paired : (a b : NetView) (e : Exposure) (pairs : List SignalPair) → IsChosen a b false e → InterfacesMatch a b → IsComparable b → ArePairs a b e.names e.left e.right pairs → ArePairsOf a b pairs
paired a b e pairs chosen matches comparable are =
    let cut : AreCutBy a b e a b = uncut a b e chosen.cut_open (chosen.closed refl) in
    pairs_cut a b e.names e.left e.right pairs are a b cut.left cut.right (are_matched (ports_of a) (ports_of b) matches) comparable.distinct

module _ (a b : NetView) (e : Exposure) (pairs : List SignalPair) (matches : InterfacesMatch a b) (chosen : IsChosen a b false e) (own : ArePairsOf a b pairs) where
  pub unfolded : AreLight a (left_signals pairs) → AreLight b (right_signals pairs) → CanBeUnfolded a b
  unfolded l r = record { matches = matches; left_acyclic = chosen.broken.0; right_acyclic = chosen.broken.1; left_light = left_light a b pairs own l; right_light = right_light a b pairs own r }

-- the clauses of the pair of this name
pub are_clauses : (a b : NetView) (e : Exposure) (left right : List ℕ) (pairs : List SignalPair) (name : List ℕ) (place : ℕ) (cnf : Cnf) → CanBeUnfolded a b → AreOrders (ports_of a) (ports_of b) left right → ArePairs a b e.names e.left e.right pairs → e.names ≡ [] →
    (named : IsPairNamed pairs name place) → AreEncoded (circuit_of a) (circuit_of b) left right named.0.left.0 named.0.right.0 cnf → TellDifference (circuit_of a) (circuit_of b) left right named.0.left.0 named.0.right.0 cnf → ArePairClauses a b name cnf
are_clauses a b e left right pairs name place cnf can orders are none named encoded tell =
    let outputs = named_outputs a b e.names e.left e.right pairs are none name place named.0 named.1 named.2 in
    record {
      unfolded = can;
      left = left;
      right = right;
      left_numbers = orders.left_is;
      right_numbers = orders.right_is;
      left_place = named.0.left.0;
      right_place = named.0.right.0;
      left_output = outputs.0;
      right_output = outputs.1;
      encoded = encoded;
      tell = tell;
    }
