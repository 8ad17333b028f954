-- The places of all queries are those of the pairs' variables in their cycles.
use Rattle.std.proofs.Common.{◌≡◌, ℕ, ◌+◌, ◌*◌, ◌<◌, ◌≤◌, List, [], ◌∷◌, map, length, refl, sym, ◌∙◌, ap, subst, arith}
use Rattle.std.specs.List.{AllZip, Contains, sum_by}
use Rattle.std.proofs.lemmas.List.Sums.{sum_by-append, sum_by-cons}
use Rattle.circuit_theory.specs.Fits.{IsPairDepth}
use Rattle.circuit_theory.specs.Tree.{Tree}
use Rattle.circuit_theory.proofs.Lists.{Contains-head, Contains-tail, Contains-map, Contains-map_from, at_of, length-map, of_at, zip_length, zip_right}
use Rattle.flat_net.specs.View.{circuit_of, named}
use Rattle.flat_net.specs.Sound.{IsSound}
use Rattle.flat_net.proofs.Nets.{sound_is_net}
use Rattle.cbf_unfold.specs.declared.unfold_places.signal_function.Unfolded.{Unfolded}
use Rattle.cbf_unfold.proofs.unfold_places.Zips.{zip_left}
use Rattle.pair_decide.specs.declared.query.Query.{Query}
use Rattle.obligations.specs.declared.obligation.Obligation.{Obligation}
use Rattle.obligations.specs.Asked.{queries_of}
use Rattle.sec_setup.specs.declared.ports.pairs.SignalPair.{SignalPair}
use Rattle.sec_setup.specs.declared.setup.Setup.{Setup}
use Rattle.sec_setup.specs.ports.Pairs.{NamedPair, places_of}
use Rattle.assume_laws.specs.Assume.{HasVariableAt}
use Rattle.cbf_unfold.specs.shift_variables.query_places.Places.{place_of, ArePlacesOf}
use Rattle.assume_queries.specs.assume_functions.assume_places.Gathered.{ArePlacesOfAll, IsOverUnder, IsLightUnder}
use Rattle.circuit_laws.specs.reset_laws.Reset.{CycleBefore}
use Rattle.circuit_laws.proofs.reset_laws.reset_nets.Starts.{nets_have_starts}
use Rattle.circuit_laws.proofs.reset_laws.ResetExist.{reset_trees_are_one}
use Rattle.reset_form.specs.declared.reset_functions.bases.Bases.{Bases}
use Rattle.reset_form.specs.declared.reset_functions.functions.Functions.{Functions}
use Rattle.reset_form.proofs.reset_functions.OwnPairs.{own_pairs, output_within, one_pair_depth}
use Rattle.reset_form.proofs.reset_functions.Parts.{is_order}
use Rattle.reset_form.specs.reset_asked.Asked.{AskedOf, AreAsked}
use Rattle.reset_form.specs.reset_asked.Numbers.{numbered}
use Rattle.reset_form.proofs.reset_asked.CycleQueries.{left_tree, right_tree, are_variables}
use Rattle.reset_form.proofs.reset_asked.Sound.{AreSound}
use Rattle.reset_form.proofs.reset_asked.PairCycles.{AsksIn, asks_at, place_within, query_in}
use Rattle.plain_check.specs.under_base.under_fits.ResetPlaces.{IsReadIn, IsReadUpTo, AreCyclePlaces, ArePairPlaces, ArePlacesOfPairs, IsOverInCycles, IsLightInCycles}
use Rattle.plain_check.proofs.asked_under.PairPlaces.{read_at, variable_at, places_read}
use Rattle.plain_check.proofs.asked_under.reset_asked_under.Queries.{query_from, query_to, split_zip}

module _ (s : Setup) (b : Bases) (f : Functions) (h : AreSound s b f) (left_sound : IsSound s.left.now) (right_sound : IsSound s.right.now) where
  module _ (p : SignalPair) (member : Contains s.pairs p) (t : ℕ) (l r : Unfolded) (q : Query) (k : AsksIn s b f p t l r q) where
    -- a variable of the query is one of the pair in the cycle
    variable_read : (v : ℕ) → Contains q.vars v → IsReadIn (numbered s b) (places_of p) t (place_of f.places v)
    variable_read v inside = record {
      left_tree = left_tree k;
      right_tree = right_tree k;
      left_unfolds = k.left_is.unfolds;
      right_unfolds = k.right_is.unfolds;
      read = read_at CycleBefore f.places q.vars (left_tree k) (right_tree k) (are_variables k) v inside;
    }

    -- and where the pair has a variable, the query has one
    read_variable : (place : ℕ) → IsReadIn (numbered s b) (places_of p) t place → (v : ℕ) × Contains q.vars v × (place_of f.places v ≡ place)
    read_variable place at = variable_at CycleBefore f.places q.vars (left_tree k) (right_tree k) (are_variables k) place
        (subst (λ (x : Tree ℕ). HasVariableAt x (right_tree k) place) left_same (subst (λ (x : Tree ℕ). HasVariableAt at.left_tree x place) right_same at.read))
      where
        left_same : at.left_tree ≡ left_tree k
        left_same =
            let starts = nets_have_starts s.left.now left_sound in
            (reset_trees_are_one (circuit_of s.left.now) (length s.left.now.drivers) s.orders.left b.left p.left.0 t (sound_is_net s.left.now left_sound) starts.0 starts.1 ((is_order s.left.now s.columns s.orders.left s.orders.right h.setup.left_columns).each ∙ sym (length-map named s.left.now.inputs))
            (output_within s.left.now left_sound p.left.0 ((own_pairs s h.setup).left p member))).1 at.left_tree (left_tree k) at.left_unfolds k.left_is.unfolds

        right_same : at.right_tree ≡ right_tree k
        right_same =
            let starts = nets_have_starts s.right.now right_sound in
            (reset_trees_are_one (circuit_of s.right.now) (length s.right.now.drivers) s.orders.right b.right p.right.0 t (sound_is_net s.right.now right_sound) starts.0 starts.1 ((is_order s.right.now s.columns s.orders.right s.orders.left h.setup.right_columns).each ∙ sym (length-map named s.right.now.inputs))
            (output_within s.right.now right_sound p.right.0 ((own_pairs s h.setup).right p member))).1 at.right_tree (right_tree k) at.right_unfolds k.right_is.unfolds

    -- so their places are the same
    own_places : (ks : List ℕ) → ArePlacesOf f.places q.vars ks → AreCyclePlaces (numbered s b) (places_of p) t ks
    own_places ks are = record { distinct = are.distinct; exactly = places_read (IsReadIn (numbered s b) (places_of p) t) f.places q.vars ks are variable_read read_variable }

  -- those of a pair, cycle by cycle
  pair_places : (p : SignalPair) → Contains s.pairs p → (o : Obligation) (k : AskedOf s b f p o) (each : List (List ℕ)) → AllZip (λ (q : Query) (ks : List ℕ). ArePlacesOf f.places q.vars ks) o.queries each → ArePairPlaces (numbered s b) (places_of p) each
  pair_places p member o k each zip = record {
    depth = o.size;
    is_depth = k.size_is;
    cycles = let long = zip_length (λ (q : Query) (ks : List ℕ). ArePlacesOf f.places q.vars ks) o.queries each zip in omega (arith, long, k.queries_are.each, k.left_are.each);
    are = λ t ks at.
        let q = zip_left (λ (q : Query) (ks : List ℕ). ArePlacesOf f.places q.vars ks) o.queries each zip t ks at in
        let a = asks_at s b f h.functions p o k t q.0 q.1 in
        own_places p member t a.0 a.1 q.0 a.2 ks q.2;
  }

  -- and of each of some pairs, as so many as all queries have
  each_own : (pairs : List SignalPair) → ((p : SignalPair) → Contains pairs p → Contains s.pairs p) → (asked : List Obligation) (own : List (List ℕ)) → AreAsked s b f pairs asked → AllZip (λ (q : Query) (ks : List ℕ). ArePlacesOf f.places q.vars ks) (queries_of asked) own →
      (parts : List (List (List ℕ))) × AllZip (ArePairPlaces (numbered s b)) (map places_of pairs) parts × (sum_by length own ≡ sum_by (λ (each : List (List ℕ)). sum_by length each) parts)
  each_own [] members [] [] are zip = ([], tt, refl)
  each_own [] members [] (ks ∷ own) are zip = absurd zip
  each_own [] members (o ∷ asked) own are zip = absurd are
  each_own (p ∷ pairs) members [] own are zip = absurd are
  each_own (p ∷ pairs) members (o ∷ asked) own are zip =
      let cut = split_zip (λ (q : Query) (ks : List ℕ). ArePlacesOf f.places q.vars ks) o.queries (queries_of asked) own zip in
      let rest = each_own pairs (λ x m. members x (Contains-tail p x pairs m)) asked cut.1 are.1 cut.4 in
      let sum : sum_by length own ≡ sum_by length cut.0 + sum_by length cut.1 = ap (sum_by length) cut.2 ∙ sum_by-append length cut.0 cut.1 in (
        cut.0 ∷ rest.0,
        (pair_places p (members p (Contains-head p pairs)) o are.0 cut.0 cut.3, rest.1),
        sum ∙ (ap (λ n. sum_by length cut.0 + n) rest.2 ∙ sym (sum_by-cons (λ (each : List (List ℕ)). sum_by length each) cut.0 rest.0)),
      )

  module _ (asked : List Obligation) (are : AreAsked s b f s.pairs asked) where
    forth : (all : List ℕ) (own : List (List ℕ)) → ArePlacesOfAll f.places (queries_of asked) all own → (place : ℕ) → Contains all place → (x : NamedPair ℕ ℕ) × Contains (map places_of s.pairs) x × IsReadUpTo (numbered s b) x place
    forth all own found place m =
        let r = (found.exactly place).0 m in
        let o = query_from asked r.0 r.2 in
        let i = at_of asked o.0 o.1 in
        let p = zip_left (AskedOf s b f) s.pairs asked are i.0 o.0 i.1 in
        let member : Contains s.pairs p.0 = of_at s.pairs i.0 p.0 p.1 in
        let t = at_of o.0.queries r.0 o.2 in
        let a = asks_at s b f h.functions p.0 o.0 p.2 t.0 r.0 t.1 in (
          places_of p.0,
          Contains-map places_of s.pairs p.0 member,
          (o.0.size, t.0, p.2.size_is, place_within s b f h.functions p.0 o.0 p.2 t.0 r.0 t.1, subst (IsReadIn (numbered s b) (places_of p.0) t.0) r.4 (variable_read p.0 member t.0 a.0 a.1 r.0 a.2 r.1 r.3)),
        )

    back : (all : List ℕ) (own : List (List ℕ)) → ArePlacesOfAll f.places (queries_of asked) all own → (place : ℕ) → (x : NamedPair ℕ ℕ) × Contains (map places_of s.pairs) x × IsReadUpTo (numbered s b) x place → Contains all place
    back all own found place (x, m, (depth, t, is_depth, le, at)) =
        let p = Contains-map_from places_of s.pairs x m in
        let i = at_of s.pairs p.0 p.1 in
        let o = zip_right (AskedOf s b f) s.pairs asked are i.0 p.0 i.1 in
        let depth_of : IsPairDepth (circuit_of s.left.now) (circuit_of s.right.now) p.0.left.0 p.0.right.0 depth = subst (λ (y : NamedPair ℕ ℕ). IsPairDepth (circuit_of s.left.now) (circuit_of s.right.now) y.left y.right depth) (sym p.2) is_depth in
        let same : depth ≡ o.0.size = one_pair_depth (circuit_of s.left.now) (circuit_of s.right.now) p.0.left.0 p.0.right.0 depth o.0.size depth_of o.2.size_is in
        let a = query_in s b f h.functions p.0 o.0 o.2 t (omega (arith, le, same)) in
        let v = read_variable p.0 p.1 t a.left a.right a.query a.asks place (subst (λ (y : NamedPair ℕ ℕ). IsReadIn (numbered s b) y t place) (sym p.2) at) in
        (found.exactly place).1 (a.query, v.0, query_to asked o.0 a.query (of_at asked i.0 o.0 o.1) (of_at o.0.queries t a.query a.at), v.1, v.2)

    own_parts : (own : List (List ℕ)) → AllZip (λ (q : Query) (ks : List ℕ). ArePlacesOf f.places q.vars ks) (queries_of asked) own →
        (parts : List (List (List ℕ))) × AllZip (ArePairPlaces (numbered s b)) (map places_of s.pairs) parts × (sum_by length own ≡ sum_by (λ (each : List (List ℕ)). sum_by length each) parts)
    own_parts own zip = each_own s.pairs (λ x m. m) asked own are zip

    places_are : (all : List ℕ) (own : List (List ℕ)) (found : ArePlacesOfAll f.places (queries_of asked) all own) → ArePlacesOfPairs (numbered s b) (map places_of s.pairs) all (own_parts own found.each).0
    places_are all own found = record {
      distinct = found.distinct;
      exactly = λ place. (forth all own found place, back all own found place);
      each = (own_parts own found.each).1;
    }

    -- the sums are those of the pairs
    pub too_large : (weight : ℕ) → IsOverUnder weight f.places (queries_of asked) → IsOverInCycles weight (numbered s b) (map places_of s.pairs)
    too_large weight over = record {
      all = over.all;
      own = (own_parts over.own over.places.each).0;
      places = places_are over.all over.own over.places;
      over = subst (λ n. 2000000 < weight * length over.all + n) (own_parts over.own over.places.each).2 over.over;
    }

    pub light : (weight : ℕ) → IsLightUnder weight f.places (queries_of asked) → IsLightInCycles weight (numbered s b) (map places_of s.pairs)
    light weight l = record {
      all = l.all;
      own = (own_parts l.own l.places.each).0;
      places = places_are l.all l.own l.places;
      light = subst (λ n. weight * length l.all + n ≤ 2000000) (own_parts l.own l.places.each).2 l.light;
    }
