-- The places of pairs over the circuits of cut nets are those over the cut circuits.
use Rattle.std.proofs.Common.{ℕ, List}
use Rattle.circuit_theory.specs.Agree.{cut}
use Rattle.circuit_theory.specs.Circuit.{Circuit}
use Rattle.circuit_theory.proofs.Lists.{zip_weaker}
use Rattle.flat_net.specs.Cut.{IsCutCircuit}
use Rattle.outcome_fits.specs.Pairs.{NamedPair}
use Rattle.outcome_fits.proofs.CutNets.{same_as_cut}
use Rattle.sec_setup.proofs.SameEquations.{same_tree, turned}
use Rattle.plain_check.specs.under_base.under_fits.Places.{IsReadAt, ArePairPlaces, ArePlacesOfPairs, IsOverAtPairs, IsLightAtPairs}

module _ (names : List (List ℕ)) (a b m k : Circuit ℕ) (left_is : IsCutCircuit names a m) (right_is : IsCutCircuit names b k) (left right : List ℕ) where
  read_there : (x : NamedPair ℕ ℕ) (t : ℕ) → IsReadAt m k left right x t → IsReadAt (cut names a) (cut names b) left right x t
  read_there x t r = record {
    left_depth = r.left_depth;
    right_depth = r.right_depth;
    left_tree = r.left_tree;
    right_tree = r.right_tree;
    left_unfolds = same_tree m (cut names a) (same_as_cut names a m left_is) r.left_unfolds;
    right_unfolds = same_tree k (cut names b) (same_as_cut names b k right_is) r.right_unfolds;
    read = r.read;
  }

  read_back : (x : NamedPair ℕ ℕ) (t : ℕ) → IsReadAt (cut names a) (cut names b) left right x t → IsReadAt m k left right x t
  read_back x t r = record {
    left_depth = r.left_depth;
    right_depth = r.right_depth;
    left_tree = r.left_tree;
    right_tree = r.right_tree;
    left_unfolds = same_tree (cut names a) m (turned m (cut names a) (same_as_cut names a m left_is)) r.left_unfolds;
    right_unfolds = same_tree (cut names b) k (turned k (cut names b) (same_as_cut names b k right_is)) r.right_unfolds;
    read = r.read;
  }

  pair_places : (x : NamedPair ℕ ℕ) (places : List ℕ) → ArePairPlaces m k left right x places → ArePairPlaces (cut names a) (cut names b) left right x places
  pair_places x places h = record { distinct = h.distinct; exactly = λ t. (λ i. read_there x t ((h.exactly t).0 i), λ r. (h.exactly t).1 (read_back x t r)) }

  places_there : (pairs : List (NamedPair ℕ ℕ)) (all : List ℕ) (own : List (List ℕ)) → ArePlacesOfPairs m k left right pairs all own → ArePlacesOfPairs (cut names a) (cut names b) left right pairs all own
  places_there pairs all own h = record {
    distinct = h.distinct;
    exactly = λ t. (λ i. (let r = (h.exactly t).0 i in (r.0, r.1, read_there r.0 t r.2)), λ r. (h.exactly t).1 (r.0, r.1, read_back r.0 t r.2));
    each = zip_weaker (ArePairPlaces m k left right) (ArePairPlaces (cut names a) (cut names b) left right) pair_places pairs own h.each;
  }

  pub light_there : (weight : ℕ) (pairs : List (NamedPair ℕ ℕ)) → IsLightAtPairs weight m k left right pairs → IsLightAtPairs weight (cut names a) (cut names b) left right pairs
  light_there weight pairs h = record { all = h.all; own = h.own; places = places_there pairs h.all h.own h.places; light = h.light }

  pub over_there : (weight : ℕ) (pairs : List (NamedPair ℕ ℕ)) → IsOverAtPairs weight m k left right pairs → IsOverAtPairs weight (cut names a) (cut names b) left right pairs
  over_there weight pairs h = record { all = h.all; own = h.own; places = places_there pairs h.all h.own h.places; over = h.over }
