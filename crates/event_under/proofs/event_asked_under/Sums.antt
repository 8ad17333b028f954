-- The places of all queries are the event nodes that have variables of the pairs.
use Rattle.std.proofs.Common.{◌≡◌, ◌≢◌, ◌∙◌, ℕ, ◌+◌, ◌*◌, ◌<◌, ◌≤◌, Bool, List, [], ◌∷◌, ◌++◌, length, map, refl, sym, ap, subst, arith}
use Rattle.std.specs.List.{AllPairs, AllZip, Contains, sum_by}
use Rattle.std.proofs.lemmas.List.Sums.{sum_by-cons}
use Rattle.circuit_theory.specs.Joined.{Either, Left, Right}
use Rattle.circuit_theory.proofs.Lists.{Contains-map, Contains-map_from, at_of, of_at, length-map, zip_right}
use Rattle.circuit_theory.specs.Frame.{EventSide}
use Rattle.sec_base.specs.declared.limits.TheConstants.{MAX_WEIGHT}
use Rattle.cbf_unfold.specs.unfold_places.Reach.{Adds}
use Rattle.cbf_unfold.proofs.unfold_places.Lists.{pairs_map}
use Rattle.cbf_unfold.proofs.unfold_places.Zips.{zip_left}
use Rattle.pair_decide.specs.declared.query.Query.{Query}
use Rattle.cbf_unfold.specs.shift_variables.query_places.Places.{place_of, ArePlacesOf}
use Rattle.sec_setup.specs.declared.ports.pairs.SignalPair.{SignalPair}
use Rattle.obligations.specs.declared.obligation.Obligation.{Obligation}
use Rattle.obligations.specs.Asked.{queries_of}
use Rattle.assume_queries.specs.assume_functions.assume_places.Gathered.{ArePlacesOfAll, IsOverUnder, IsLightUnder}
use Rattle.event_nodes.specs.Nodes.{EventGraphView, IsEventGraph}
use Rattle.event_form.specs.event_agreement.Queries.{AsksEventPair}
use Rattle.event_form.specs.Asked.{AreAsked}
use Rattle.event_under.specs.Places.{IsReadAt, ArePairNodes, AreNodesOfPairs, IsOverAtNodes, IsLightAtNodes}
use Rattle.event_nodes.specs.event_variables.ranked_nodes.Ranks.{AreRanked}
use Rattle.event_nodes.specs.declared.event_variables.ranked_nodes.ranks.RankedNodes.{RankedNodes}
use Rattle.event_nodes.specs.event_variables.ranked_nodes.Named.{ranked_in, path_at}
use Rattle.event_under.proofs.event_asked_under.Paths.{path_one}
use Rattle.event_under.proofs.event_asked_under.Nodes.{variable_there, variable_back}

-- the query of a pair
abbrev IsQueryOf : EventSide (Either ℕ ℕ) → EventGraphView → SignalPair → Query → Type 0
IsQueryOf s w p q = AsksEventPair s w (Left p.left.0) (Right p.right.0) q

-- one for each pair
queries_zip : (s : EventSide (Either ℕ ℕ)) (w : EventGraphView) (cut : Bool) (pairs : List SignalPair) (asked : List Obligation) → AreAsked s w cut pairs asked → AllZip (IsQueryOf s w) pairs (queries_of asked)
queries_zip s w cut [] [] are = tt
queries_zip s w cut [] (o ∷ asked) are = absurd are
queries_zip s w cut (p ∷ pairs) [] are = absurd are
queries_zip s w cut (p ∷ pairs) (o ∷ asked) are =
    subst (λ (qs : List Query). AllZip (IsQueryOf s w) (p ∷ pairs) (qs ++ queries_of asked)) (sym are.0.only) (are.0.asks, queries_zip s w cut pairs asked are.1)

module _ (s : EventSide (Either ℕ ℕ)) (w : EventGraphView) (is : IsEventGraph w) (r : RankedNodes) (k : AreRanked w.children r) (table : List (ℕ × ℕ)) (adds : Adds (λ p. Unit {0}) (ranked_in r.ranks.items w.places) table) where
  abbrev path : ℕ → List ℕ
  path = path_at w.children r.nodes

  apart_map : (ks : List ℕ) → AllPairs (λ i j. i ≢ j) ks → AllPairs (λ m n. m ≢ n) (map path ks)
  apart_map ks apart = pairs_map path (λ i j. i ≢ j) (λ m n. m ≢ n) ks (λ i j hi hj differ e. differ (path_one w.children r k is.is_tree is.once i j e)) apart

  -- the query's own places, by their paths
  own_nodes : (p : SignalPair) (q : Query) → IsQueryOf s w p q → (ks : List ℕ) → ArePlacesOf table q.vars ks → ArePairNodes s p (map path ks)
  own_nodes p q asks ks are = record {
    distinct = apart_map ks are.distinct;
    exactly = λ node. (
      λ m. (let i = Contains-map_from path ks node m in
          let v = are.from i.0 i.1 in
          subst (IsReadAt s p) (ap path v.2 ∙ i.2) (variable_there w is r k table adds s (Left p.left.0) (Right p.right.0) q asks v.0 v.1)),
      λ at. (let v = variable_back w is r k table adds s (Left p.left.0) (Right p.right.0) q asks node at in
          subst (Contains (map path ks)) v.2 (Contains-map path ks (place_of table v.0) (are.all v.0 v.1))),
    );
  }

  each_own : (pairs : List SignalPair) (qs : List Query) (own : List (List ℕ)) → AllZip (IsQueryOf s w) pairs qs → AllZip (λ (q : Query) (ks : List ℕ). ArePlacesOf table q.vars ks) qs own → AllZip (ArePairNodes s) pairs (map (map path) own)
  each_own [] [] [] are zip = tt
  each_own [] [] (ks ∷ own) are zip = absurd zip
  each_own [] (q ∷ qs) own are zip = absurd are
  each_own (p ∷ pairs) [] own are zip = absurd are
  each_own (p ∷ pairs) (q ∷ qs) [] are zip = absurd zip
  each_own (p ∷ pairs) (q ∷ qs) (ks ∷ own) are zip = (own_nodes p q are.0 ks zip.0, each_own pairs qs own are.1 zip.1)

  sum_own : (own : List (List ℕ)) → sum_by length (map (map path) own) ≡ sum_by length own
  sum_own [] = refl
  sum_own (ks ∷ own) =
      let rest = sum_own own in
      let one = length-map path ks in
      let left = sum_by-cons length (map path ks) (map (map path) own) in
      let right = sum_by-cons length ks own in
      omega (arith, rest, one, left, right)

  module _ (cut : Bool) (pairs : List SignalPair) (asked : List Obligation) (are : AreAsked s w cut pairs asked) where
    nodes_are : (all : List ℕ) (own : List (List ℕ)) → ArePlacesOfAll table (queries_of asked) all own → AreNodesOfPairs s pairs (map path all) (map (map path) own)
    nodes_are all own found = record {
      distinct = apart_map all found.distinct;
      exactly = λ node. (forth node, back node);
      each = each_own pairs (queries_of asked) own (queries_zip s w cut pairs asked are) found.each;
    }
      where
        forth : (node : List ℕ) → Contains (map path all) node → (p : SignalPair) × Contains pairs p × IsReadAt s p node
        forth node m =
            let i = Contains-map_from path all node m in
            let e = (found.exactly i.0).0 i.1 in
            let at = at_of (queries_of asked) e.0 e.2 in
            let p = zip_left (IsQueryOf s w) pairs (queries_of asked) (queries_zip s w cut pairs asked are) at.0 e.0 at.1 in
            (p.0, of_at pairs at.0 p.0 p.1, subst (IsReadAt s p.0) (ap path e.4 ∙ i.2) (variable_there w is r k table adds s (Left p.0.left.0) (Right p.0.right.0) e.0 p.2 e.1 e.3))

        back : (node : List ℕ) → (p : SignalPair) × Contains pairs p × IsReadAt s p node → Contains (map path all) node
        back node (p, m, at) =
            let i = at_of pairs p m in
            let q = zip_right (IsQueryOf s w) pairs (queries_of asked) (queries_zip s w cut pairs asked are) i.0 p i.1 in
            let v = variable_back w is r k table adds s (Left p.left.0) (Right p.right.0) q.0 q.2 node at in
            subst (Contains (map path all)) v.2 (Contains-map path all (place_of table v.0) ((found.exactly (place_of table v.0)).1 (q.0, v.0, of_at (queries_of asked) i.0 q.0 q.1, v.1, refl)))

    -- the sums are those of the pairs
    pub over_at_nodes : (weight : ℕ) → IsOverUnder weight table (queries_of asked) → IsOverAtNodes weight s pairs
    over_at_nodes weight o = record {
      all = map path o.all;
      own = map (map path) o.own;
      nodes = nodes_are o.all o.own o.places;
      over = subst (λ z. MAX_WEIGHT < weight * length (map path o.all) + z) (sym (sum_own o.own)) (subst (λ z. MAX_WEIGHT < weight * z + sum_by length o.own) (sym (length-map path o.all)) o.over);
    }

    pub light_at_nodes : (weight : ℕ) → IsLightUnder weight table (queries_of asked) → IsLightAtNodes weight s pairs
    light_at_nodes weight l = record {
      all = map path l.all;
      own = map (map path) l.own;
      nodes = nodes_are l.all l.own l.places;
      light = subst (λ z. weight * length (map path l.all) + z ≤ MAX_WEIGHT) (sym (sum_own l.own)) (subst (λ z. weight * z + sum_by length l.own ≤ MAX_WEIGHT) (sym (length-map path l.all)) l.light);
    }
