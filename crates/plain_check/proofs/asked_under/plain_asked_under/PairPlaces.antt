-- The places of all queries are those of the pairs' variables.
use Rattle.std.proofs.Common.{◌≡◌, ℕ, List, [], ◌∷◌, ◌++◌, map, sym, subst}
use Rattle.std.specs.List.{AllZip, Contains}
use Rattle.circuit_theory.specs.Circuit.{Circuit}
use Rattle.circuit_theory.specs.Query.{ShiftBefore}
use Rattle.circuit_theory.specs.Tree.{Tree}
use Rattle.circuit_theory.proofs.Lists.{Contains-map, Contains-map_from, at_of, of_at, zip_right}
use Rattle.circuit_theory.proofs.Numbers.{one_number}
use Rattle.circuit_laws.proofs.OneTree.{one_tree}
use Rattle.flat_net.specs.View.{circuit_of}
use Rattle.flat_net.proofs.Nets.{sound_is_net}
use Rattle.cbf_unfold.specs.declared.unfold_places.signal_function.Unfolded.{Unfolded}
use Rattle.cbf_unfold.proofs.unfold_places.Zips.{zip_left}
use Rattle.pair_decide.specs.declared.query.Query.{Query}
use Rattle.obligations.specs.declared.obligation.Obligation.{Obligation}
use Rattle.obligations.specs.Asked.{queries_of}
use Rattle.sec_setup.specs.declared.ports.pairs.SignalPair.{SignalPair}
use Rattle.sec_setup.specs.declared.setup.Setup.{Setup}
use Rattle.sec_setup.specs.ports.Pairs.{NamedPair, places_of}
use Rattle.assume_laws.specs.Assume.{HasVariableAt}
use Rattle.cbf_unfold.specs.shift_variables.query_places.Places.{place_of, ArePlacesOf}
use Rattle.assume_queries.specs.assume_functions.assume_places.Gathered.{ArePlacesOfAll, IsOverUnder, IsLightUnder}
use Rattle.plain_asked.specs.declared.functions.Functions.{Functions}
use Rattle.plain_asked.specs.Asked.{AreAsked}
use Rattle.plain_asked.specs.Pairs.{IsFunctionOf}
use Rattle.plain_asked.specs.Variables.{IsPairQuery}
use Rattle.plain_asked.proofs.Sound.{AreSound}
use Rattle.plain_asked.proofs.PairQueries.{AsksPair, left_tree, right_tree, are_variables}
use Rattle.plain_check.specs.asked_under.plain_asked_under.Formed.{IsAssumptionTooLarge, IsAssumptionLight}
use Rattle.plain_check.proofs.asked_under.PairPlaces.{read_at, variable_at, places_read}
use Rattle.plain_check.specs.under_base.under_fits.Places.{IsReadAt, ArePairPlaces, ArePlacesOfPairs}

-- the query of a pair's functions
record IsQueryOf (s : Setup) (f : Functions) (p : SignalPair) (q : Query) : Type 0 where
  pub left_function : Unfolded
  pub right_function : Unfolded
  pub left_is : IsFunctionOf s.left.now s.orders.left f.aig f.places p.left.0 left_function
  pub right_is : IsFunctionOf s.right.now s.orders.right f.aig f.places p.right.0 right_function
  pub asks : IsPairQuery f.places left_function right_function q

-- one for each pair
queries_zip : (s : Setup) (f : Functions) (pairs : List SignalPair) (asked : List Obligation) → AreAsked s f pairs asked → AllZip (IsQueryOf s f) pairs (queries_of asked)
queries_zip s f [] [] are = tt
queries_zip s f [] (o ∷ asked) are = absurd are
queries_zip s f (p ∷ pairs) [] are = absurd are
queries_zip s f (p ∷ pairs) (o ∷ asked) are =
    let k = are.0 in
    subst (λ (qs : List Query). AllZip (IsQueryOf s f) (p ∷ pairs) (qs ++ queries_of asked)) (sym k.queries_are.1)
    (record { left_function = k.left_function; right_function = k.right_function; left_is = k.left_is; right_is = k.right_is; asks = k.queries_are.2 }, queries_zip s f pairs asked are.1)

module _ (s : Setup) (f : Functions) (h : AreSound s f) where
  abbrev a : Circuit ℕ
  a = circuit_of s.left.now

  abbrev b : Circuit ℕ
  b = circuit_of s.right.now

  module _ (p : SignalPair) (q : Query) (k : IsQueryOf s f p q) where
    asks : AsksPair s.left.now s.right.now s.orders.left s.orders.right f.aig f.places p.left.0 p.right.0 k.left_function k.right_function q
    asks = record { graph = h.graph; distinct = h.distinct; values = h.values; left_is = k.left_is; right_is = k.right_is; asks = k.asks }

    -- a variable of the query is one of the pair at its place
    variable_read : (v : ℕ) → Contains q.vars v → IsReadAt a b s.orders.left s.orders.right (places_of p) (place_of f.places v)
    unfolding asks
    variable_read v inside = record {
      left_depth = k.left_is.depth;
      right_depth = k.right_is.depth;
      left_tree = left_tree asks;
      right_tree = right_tree asks;
      left_unfolds = k.left_is.unfolds;
      right_unfolds = k.right_is.unfolds;
      read = read_at ShiftBefore f.places q.vars (left_tree asks) (right_tree asks) (are_variables asks) v inside;
    }

    -- and where the pair has a variable, the query has one
    read_variable : (place : ℕ) → IsReadAt a b s.orders.left s.orders.right (places_of p) place → (v : ℕ) × Contains q.vars v × (place_of f.places v ≡ place)
    unfolding asks
    read_variable place at = variable_at ShiftBefore f.places q.vars (left_tree asks) (right_tree asks) (are_variables asks) place
        (subst (λ (x : Tree ℕ). HasVariableAt x (right_tree asks) place) left_same (subst (λ (x : Tree ℕ). HasVariableAt at.left_tree x place) right_same at.read))
      where
        left_same : at.left_tree ≡ left_tree asks
        left_same =
            let n = sound_is_net s.left.now h.left in
            (one_tree a s.orders.left n.single (λ t i j l r. one_number a.inputs s.orders.left n.inputs t i j l r) at.left_unfolds k.left_is.unfolds).0

        right_same : at.right_tree ≡ right_tree asks
        right_same =
            let n = sound_is_net s.right.now h.right in
            (one_tree b s.orders.right n.single (λ t i j l r. one_number b.inputs s.orders.right n.inputs t i j l r) at.right_unfolds k.right_is.unfolds).0

    -- so their places are the same
    own_places : (ks : List ℕ) → ArePlacesOf f.places q.vars ks → ArePairPlaces a b s.orders.left s.orders.right (places_of p) ks
    own_places ks are = record { distinct = are.distinct; exactly = places_read (IsReadAt a b s.orders.left s.orders.right (places_of p)) f.places q.vars ks are variable_read read_variable }

  each_own : (pairs : List SignalPair) (qs : List Query) (own : List (List ℕ)) → AllZip (IsQueryOf s f) pairs qs → AllZip (λ (q : Query) (ks : List ℕ). ArePlacesOf f.places q.vars ks) qs own →
      AllZip (ArePairPlaces a b s.orders.left s.orders.right) (map places_of pairs) own
  each_own [] [] [] are zip = tt
  each_own [] [] (ks ∷ own) are zip = absurd zip
  each_own [] (q ∷ qs) own are zip = absurd are
  each_own (p ∷ pairs) [] own are zip = absurd are
  each_own (p ∷ pairs) (q ∷ qs) [] are zip = absurd zip
  each_own (p ∷ pairs) (q ∷ qs) (ks ∷ own) are zip = (own_places p q are.0 ks zip.0, each_own pairs qs own are.1 zip.1)

  module _ (asked : List Obligation) (are : AreAsked s f s.pairs asked) where
    places_are : (all : List ℕ) (own : List (List ℕ)) → ArePlacesOfAll f.places (queries_of asked) all own → ArePlacesOfPairs a b s.orders.left s.orders.right (map places_of s.pairs) all own
    places_are all own found = record {
      distinct = found.distinct;
      exactly = λ place. (forth place, back place);
      each = each_own s.pairs (queries_of asked) own (queries_zip s f s.pairs asked are) found.each;
    }
      where
        forth : (place : ℕ) → Contains all place → (x : NamedPair ℕ ℕ) × Contains (map places_of s.pairs) x × IsReadAt a b s.orders.left s.orders.right x place
        forth place m =
            let r = (found.exactly place).0 m in
            let i = at_of (queries_of asked) r.0 r.2 in
            let p = zip_left (IsQueryOf s f) s.pairs (queries_of asked) (queries_zip s f s.pairs asked are) i.0 r.0 i.1 in (
              places_of p.0,
              Contains-map places_of s.pairs p.0 (of_at s.pairs i.0 p.0 p.1),
              subst (IsReadAt a b s.orders.left s.orders.right (places_of p.0)) r.4 (variable_read p.0 r.0 p.2 r.1 r.3),
            )

        back : (place : ℕ) → (x : NamedPair ℕ ℕ) × Contains (map places_of s.pairs) x × IsReadAt a b s.orders.left s.orders.right x place → Contains all place
        back place (x, m, at) =
            let p = Contains-map_from places_of s.pairs x m in
            let i = at_of s.pairs p.0 p.1 in
            let q = zip_right (IsQueryOf s f) s.pairs (queries_of asked) (queries_zip s f s.pairs asked are) i.0 p.0 i.1 in
            let v = read_variable p.0 q.0 q.2 place (subst (λ (y : NamedPair ℕ ℕ). IsReadAt a b s.orders.left s.orders.right y place) (sym p.2) at) in
            (found.exactly place).1 (q.0, v.0, of_at (queries_of asked) i.0 q.0 q.1, v.1, v.2)

    -- the sums are those of the pairs
    pub too_large : (weight : ℕ) → IsOverUnder weight f.places (queries_of asked) → IsAssumptionTooLarge s weight
    too_large weight over = record { all = over.all; own = over.own; places = places_are over.all over.own over.places; over = over.over }

    pub light : (weight : ℕ) → IsLightUnder weight f.places (queries_of asked) → IsAssumptionLight s weight
    light weight l = record { all = l.all; own = l.own; places = places_are l.all l.own l.places; light = l.light }
