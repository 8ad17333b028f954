-- What is asked of a pair with an assumption as a further care.
use Rattle.std.proofs.Common.{◌≡◌, ◌∙◌, ℕ, ◌*◌, ◌/◌, ◌<◌, ◌≤◌, Bool, true, false, ◌&&◌, List, [], ◌∷◌, length, get_or, slice_get, Some, refl, sym, ap, subst, arith, inl, inr}
use Rattle.std.specs.Prelude.{◌⊎◌, ◌↔◌}
use Rattle.std.specs.List.{All, AllPairs, Contains}
use Rattle.std.proofs.lemmas.List.Elements.{All-contains}
use Rattle.std.proofs.lemmas.Option.{slice_get-get_or}
use Rattle.circuit_theory.specs.Joined.{Either}
use Rattle.circuit_theory.specs.Query.{Variable, HasLeaf}
use Rattle.circuit_theory.specs.Tree.{Tree}
use Rattle.circuit_theory.proofs.Lists.{All-from_each, Contains-cases, Contains-head, Contains-map, Contains-map_from, Contains-tail, length-map, only}
use Rattle.circuit_theory.specs.EventFrames.{AreNodeVariables, IsPairTree}
use Rattle.circuit_theory.specs.Frame.{EventSide, NodeBefore}
use Rattle.circuit_laws.specs.reset_laws.Reset.{CycleBefore}
use Rattle.aig.specs.declared.node.Lit.{Lit}
use Rattle.aig.specs.declared.node.Node.{Node}
use Rattle.aig.specs.declared.node.Node.TheVariants.{Input}
use Rattle.aig.specs.Builds.{Builds, TakesBits}
use Rattle.aig.specs.Cone.{IsReached}
use Rattle.aig.specs.Graph.{IsGraph, Grows}
use Rattle.aig.specs.Values.{value}
use Rattle.aig.proofs.CoverMeaning.{value-and}
use Rattle.aig.proofs.Growth.{Builds-one, Grows-trans}
use Rattle.aig.proofs.Meaning.{value-grows}
use Rattle.aig.proofs.graph_copy.Reaching.{input_back, reads_and}
use Rattle.aig.specs.graph_copy.graph_clone.Twins.{AreTwins, IsTwinOf, twin_in}
use Rattle.aig.proofs.graph_copy.graph_clone.Twins.{twin_grows, twin_there}
use Rattle.pair_decide.specs.declared.query.Query.{Query}
use Rattle.pair_decide.specs.Queries.{IsQuery, roots_of}
use Rattle.aig.specs.Adds.{Adds}
use Rattle.cbf_unfold.specs.shift_variables.Variables.{variable_of, variables_of}
use Rattle.cbf_unfold.proofs.shift_variables.Reading.{pair_is}
use Rattle.aig.proofs.Lists.{pairs_map}
use Rattle.cbf_unfold.specs.shift_variables.query_places.Places.{place_of}
use Rattle.assume_laws.specs.Assume.{Assumption, RowMeets, HasVariableAtNode, HasCareUnder}
use Rattle.assume_laws.specs.Sequences.{IsPairTreeUnder, IsSideTree}
use Rattle.assume_laws.proofs.Meeting.{leaf_at}
use Rattle.assume_queries.specs.declared.assume_answers.order.VariableOrder.TheVariants as order
use Rattle.assume_queries.specs.assume_answers.Under.{IsUnder, MeetsAtEach, ReadsAtOne}
use Rattle.event_nodes.specs.Nodes.{EventGraphView, IsEventGraph, named_places, path_of}
use Rattle.event_nodes.specs.event_variables.Variables as event_variables
use Rattle.aig.proofs.Supports.{reached_one, reached_among}
use Rattle.event_nodes.proofs.event_variables.Named.{named_distinct}
use Rattle.event_form.specs.event_agreement.Queries.{AsksEventPair}
use Rattle.event_form.proofs.event_agreement.PairQueries as pair_query
use Rattle.event_under.specs.Asked.{variable_in, variables_in, AsksUnder}
use Rattle.event_nodes.specs.event_variables.ranked_nodes.Ranks.{AreRanked}
use Rattle.event_nodes.specs.declared.event_variables.ranked_nodes.ranks.RankedNodes.{RankedNodes}
use Rattle.event_nodes.specs.event_variables.ranked_nodes.Named.{ranked_in}
use Rattle.event_under.specs.event_asked_under.Sides.{HasSides}
use Rattle.event_under.proofs.event_asked_under.Nodes.{query_within, variable_there, variable_back}
use Rattle.event_under.proofs.event_asked_under.Moved.{moved, moved_unfolds, moved_leaf}
use Rattle.event_under.proofs.event_asked_under.Paths.{rank, path_rank, lower_goes}
use Rattle.event_under.proofs.event_asked_under.Variables.{at_rank, named, entry, placed, variable_named, entry_in, node_there, same_variable, same_input, takes_ranks, takes_events}

and_true : (x y : Bool) → (x && y) ≡ true → (x ≡ true) × (y ≡ true)
and_true true y e = (refl, e)
and_true false y e = absurd (let h : false ≡ true = e in cc)

true_and : (x y : Bool) → x ≡ true → y ≡ true → (x && y) ≡ true
true_and x y e f = ap (λ (b : Bool). b && y) e ∙ f

-- the query of a pair as the event form asks it, the table of places that has grown, what is asked of the query under the assumption, and the query
-- that has the sides and both cares
module _ (c : Assumption) (s : EventSide (Either ℕ ℕ)) (w : EventGraphView) (is : IsEventGraph w) (ranked : RankedNodes) (k : AreRanked w.children ranked) (table : List (ℕ × ℕ)) (adds : Adds (λ p. Unit {0}) (ranked_in ranked.ranks.items w.places) table)
    (p q : Either ℕ ℕ) (query : Query) (asks : AsksEventPair s w p q query) (f g h : List Node) (lits : List Lit) (graph : IsGraph h) (first : Grows f g) (second : Grows g h) (twins : AreTwins w.graph f lits) (long : length lits ≡ length w.graph)
    (r x : Query) (under : IsUnder order.Cycles c g table query r) (sides : HasSides lits h query r x) where
  abbrev places : List (ℕ × List ℕ)
  places = named w is ranked k table adds

  abbrev by_rank : ℕ → List ℕ
  by_rank = at_rank w is ranked k table adds

  within : (v : ℕ) → Contains query.vars v → v < length w.places
  within = query_within w is s p q query asks

  variables : AreNodeVariables (IsPairTree s p q) (event_variables.variables_of w query.vars)
  variables = pair_query.are_variables s w p q query is asks

  -- a variable of the query, at its node
  there : (v : ℕ) → Contains query.vars v → HasVariableAtNode s p q (by_rank (place_of table v))
  there = variable_there w is ranked k table adds s p q query asks

  back : (node : List ℕ) → HasVariableAtNode s p q node → (v : ℕ) × Contains query.vars v × (by_rank (place_of table v) ≡ node)
  back = variable_back w is ranked k table adds s p q query asks

  is_query : IsQuery w.graph query
  is_query = pair_query.is_query s w p q query is asks

  abbrev at_places : (ℕ → List ℕ → Bool) → ℕ → ℕ → Bool
  at_places bits i j = bits i (by_rank j)

  meets_forth : (bits : ℕ → List ℕ → Bool) → MeetsAtEach c table query.vars (at_places bits) → (node : List ℕ) → HasVariableAtNode s p q node → RowMeets c (λ i. bits i node)
  meets_forth bits each node has = let v = back node has in subst (λ (z : List ℕ). RowMeets c (λ i. bits i z)) v.2 (each v.0 v.1)

  meets_back : (bits : ℕ → List ℕ → Bool) → ((node : List ℕ) → HasVariableAtNode s p q node → RowMeets c (λ i. bits i node)) → MeetsAtEach c table query.vars (at_places bits)
  meets_back bits each v m = each (by_rank (place_of table v)) (there v m)

  -- the literals of both sides, and of the care of the event form
  half : (l : Lit) → l.0 < 2 * length w.graph → l.0 / 2 < length lits
  half l below = omega (arith, below, long)

  twin : (l : Lit) → l.0 < 2 * length w.graph → IsTwinOf w.graph h l.0 (twin_in lits l).0
  twin l below = twin_grows w.graph f h graph (Grows-trans f g h first second) l.0 (twin_in lits l).0 (twin_there w.graph f lits l twins (half l below))

  left_twin : IsTwinOf w.graph h query.left.0 x.left.0
  left_twin = subst (λ (l : Lit). IsTwinOf w.graph h query.left.0 l.0) (sym sides.left_is) (twin query.left is_query.left)

  right_twin : IsTwinOf w.graph h query.right.0 x.right.0
  right_twin = subst (λ (l : Lit). IsTwinOf w.graph h query.right.0 l.0) (sym sides.right_is) (twin query.right is_query.right)

  care_twin : IsTwinOf w.graph h query.care.0 (twin_in lits query.care).0
  care_twin = twin query.care is_query.care

  care_is : (a : ℕ → Bool) → value h a x.care.0 ≡ (value g a r.care.0 && value w.graph a query.care.0)
  care_is a =
      value-and h graph a r.care.0 (twin_in lits query.care).0 x.care.0 sides.care_is
      ∙ (ap (λ (b : Bool). b && value h a (twin_in lits query.care).0) (value-grows g h second a r.care.0 under.within) ∙ ap (λ (b : Bool). value g a r.care.0 && b) (care_twin.same a))

  -- each variable that is read is one of the query
  abbrev Reads : ℕ → Type 0
  Reads y = (n v : ℕ) → IsReached h (y ∷ []) n → slice_get h n ≡ Some (Input v) → Contains r.vars v

  twin_reads : (l y : ℕ) → Contains (roots_of query) l → IsTwinOf w.graph h l y → Reads y
  twin_reads l y root t n v reached at = let o = t.reads n v reached at in under.contains v (is_query.covers o.0 v (reached_among w.graph l (roots_of query) root o.1) o.2)

  left_root : Contains (roots_of query) query.left.0
  left_root = Contains-head query.left.0 (query.right.0 ∷ query.care.0 ∷ [])

  right_root : Contains (roots_of query) query.right.0
  right_root = Contains-tail query.left.0 query.right.0 (query.right.0 ∷ query.care.0 ∷ []) (Contains-head query.right.0 (query.care.0 ∷ []))

  care_root : Contains (roots_of query) query.care.0
  care_root = Contains-tail query.left.0 query.care.0 (query.right.0 ∷ query.care.0 ∷ []) (Contains-tail query.right.0 query.care.0 (query.care.0 ∷ []) (Contains-head query.care.0 []))

  care_reads : Reads x.care.0
  care_reads =
      reads_and h graph (Contains r.vars) r.care.0 (twin_in lits query.care).0 x.care.0 sides.care_is
      (λ n v reached at. let old = input_back g h graph.ordered second r.care.0 n v under.within reached at in under.reads n v old.0 old.1)
      (twin_reads query.care.0 (twin_in lits query.care).0 care_root care_twin)

  covers : (n v : ℕ) → IsReached h (roots_of x) n → slice_get h n ≡ Some (Input v) → Contains x.vars v
  covers n v reached at = subst (λ (vs : List ℕ). Contains vs v) (sym sides.vars_are) (let one = reached_one h (roots_of x) n reached in go one.0 (Contains-cases x.left.0 one.0 (x.right.0 ∷ x.care.0 ∷ []) one.1) one.2)
    where
      last : (y : ℕ) → (x.right.0 ≡ y) ⊎ Contains (x.care.0 ∷ []) y → IsReached h (y ∷ []) n → Contains r.vars v
      last y (inl e) m = twin_reads query.right.0 x.right.0 right_root right_twin n v (subst (λ (z : ℕ). IsReached h (z ∷ []) n) (sym e) m) at
      last y (inr o) m = care_reads n v (subst (λ (z : ℕ). IsReached h (z ∷ []) n) (sym (only x.care.0 y o)) m) at

      go : (y : ℕ) → (x.left.0 ≡ y) ⊎ Contains (x.right.0 ∷ x.care.0 ∷ []) y → IsReached h (y ∷ []) n → Contains r.vars v
      go y (inl e) m = twin_reads query.left.0 x.left.0 left_root left_twin n v (subst (λ (z : ℕ). IsReached h (z ∷ []) n) (sym e) m) at
      go y (inr o) m = last y (Contains-cases x.right.0 y (x.care.0 ∷ []) o) m

  apart : (u v : Variable ℕ) → CycleBefore u v → u ≡ v → ⊥
  apart u v (inl low) e = omega (arith, low, ap (λ (y : Variable ℕ). y.at) e)
  apart u v (inr low) e = omega (arith, low.1, ap (λ (y : Variable ℕ). y.input) e)

  asked_query : IsQuery h x
  asked_query = record {
    left = left_twin.within;
    right = right_twin.within;
    care = sides.care_within;
    distinct = subst (λ (vs : List ℕ). AllPairs (λ u v. (u ≡ v → ⊥)) vs) (sym sides.vars_are)
        (λ i j d below inside e. apart (variable_of table (get_or r.vars i d)) (variable_of table (get_or r.vars j d)) (under.in_order.ordered i j d below inside) (ap (variable_of table) e));
    covers = covers;
  }

  -- each variable stands at a node of the event graph
  at_node : (v : ℕ) → Contains r.vars v → (m : ℕ) × (m ≤ length w.children) × (place_of table v ≡ rank w.children ranked k m)
  at_node v inside = go ((under.exactly (variable_of table v)).0 (Contains-map (variable_of table) r.vars v inside))
    where
      node_of : (u : ℕ) → u < length w.places → (m : ℕ) × (m ≤ length w.children) × (place_of table u ≡ rank w.children ranked k m)
      node_of u below =
          let e = entry_in w is ranked k table adds u below in
          (e.0.1, placed w is ranked k table adds u e.0 e.1, ap (λ (y : Variable ℕ). y.at) (pair_is table u (e.0.0, rank w.children ranked k e.0.1) (entry w is ranked k table adds u e.0 e.1)))

      go : Contains (variables_of table query.vars) (variable_of table v) ⊎ ReadsAtOne c table query.vars (variable_of table v) → (m : ℕ) × (m ≤ length w.children) × (place_of table v ≡ rank w.children ranked k m)
      go (inl own) =
          let u = Contains-map_from (variable_of table) query.vars (variable_of table v) own in
          let n = node_of u.0 (within u.0 u.1) in
          (n.0, n.1, sym (ap (λ (y : Variable ℕ). y.at) u.2) ∙ n.2)
      go (inr (u, tree, m, unfolds, stands)) =
          let n = node_of u (within u m) in
          (n.0, n.1, leaf_at c.circuit c.order (place_of table u) (variable_of table v) unfolds stands ∙ n.2)

  -- its variable by the path
  by_path : (v : ℕ) → Contains r.vars v → variable_in places v ≡ record { input = (variable_of table v).input; at = by_rank (place_of table v) }
  by_path v inside =
      let below : v < length table = All-contains (λ u. u < length table) r.vars v under.in_order.within inside in
      variable_named w is ranked k table adds v (get_or table v (0, 0)) (slice_get-get_or table v (0, 0) below)

  goes : (u v : ℕ) → Contains r.vars u → Contains r.vars v → CycleBefore (variable_of table u) (variable_of table v) → NodeBefore (variable_in places u) (variable_in places v)
  goes u v hu hv before =
      let m = at_node u hu in
      let n = at_node v hv in
      let i = (variable_of table u).input in
      let j = (variable_of table v).input in
      let lower : CycleBefore (record { input = i; at = rank w.children ranked k m.0 }) (record { input = j; at = rank w.children ranked k n.0 }) =
      subst (λ z. CycleBefore (record { input = i; at = rank w.children ranked k m.0 }) (record { input = j; at = z })) n.2 (subst (λ z. CycleBefore (record { input = i; at = z }) (variable_of table v)) m.2 before) in
      let made = lower_goes w.children ranked k m.0 n.0 i j m.1 n.1 lower in
      let first_path : by_rank (place_of table u) ≡ path_of w.children m.0 = ap by_rank m.2 ∙ path_rank w.children ranked k m.0 m.1 in
      let second_path : by_rank (place_of table v) ≡ path_of w.children n.0 = ap by_rank n.2 ∙ path_rank w.children ranked k n.0 n.1 in
      let x_is : variable_in places u ≡ record { input = i; at = path_of w.children m.0 } = by_path u hu ∙ (λ t. record { input = i; at = first_path t }) in
      let y_is : variable_in places v ≡ record { input = j; at = path_of w.children n.0 } = by_path v hv ∙ (λ t. record { input = j; at = second_path t }) in
      subst (λ (y : Variable (List ℕ)). NodeBefore (variable_in places u) y) (sym y_is) (subst (λ (z : Variable (List ℕ)). NodeBefore z (record { input = j; at = path_of w.children n.0 })) (sym x_is) made)

  -- the variables by paths are those of the pair under the assumption
  of_pair : (y : Variable (List ℕ)) (v : ℕ) → Contains query.vars v → event_variables.variable_of w v ≡ y → (tree : Tree (List ℕ)) × IsPairTree s p q tree × HasLeaf y tree
  of_pair y v m e = let l = (variables.exactly y).0 (subst (Contains (event_variables.variables_of w query.vars)) e (Contains-map (event_variables.variable_of w) query.vars v m)) in (l.0, l.1, l.2)

  to_tree : (y : Variable (List ℕ)) (v : ℕ) → Contains r.vars v → variable_in places v ≡ y → (tree : Tree (List ℕ)) × IsPairTreeUnder c s p q tree × HasLeaf y tree
  to_tree y v inside e = go ((under.exactly (variable_of table v)).0 (Contains-map (variable_of table) r.vars v inside))
    where
      seen : y ≡ record { input = (variable_of table v).input; at = by_rank (place_of table v) }
      seen = sym e ∙ by_path v inside

      go : Contains (variables_of table query.vars) (variable_of table v) ⊎ ReadsAtOne c table query.vars (variable_of table v) → (tree : Tree (List ℕ)) × IsPairTreeUnder c s p q tree × HasLeaf y tree
      go (inl own) =
          let u = Contains-map_from (variable_of table) query.vars (variable_of table v) own in
          let below = within u.0 u.1 in
          let input : (event_variables.variable_of w u.0).input ≡ y.input = sym (same_input w is ranked k table adds u.0 below) ∙ (ap (λ (z : Variable ℕ). z.input) u.2 ∙ sym (ap (λ (z : Variable (List ℕ)). z.input) seen)) in
          let at : (event_variables.variable_of w u.0).at ≡ y.at = sym (node_there w is ranked k table adds u.0 below) ∙ (ap by_rank (ap (λ (z : Variable ℕ). z.at) u.2) ∙ sym (ap (λ (z : Variable (List ℕ)). z.at) seen)) in
          let t = of_pair y u.0 u.1 (λ l. record { input = input l; at = at l }) in
          (t.0, inl t.1, t.2)
      go (inr (u, tree, m, unfolds, stands)) =
          let node = by_rank (place_of table u) in
          let place : place_of table v ≡ place_of table u = leaf_at c.circuit c.order (place_of table u) (variable_of table v) unfolds stands in
          let same : record { input = (variable_of table v).input; at = node } ≡ y = (λ l. record { input = (variable_of table v).input; at = by_rank (sym place l) }) ∙ sym seen in (
            moved node tree,
            inr (node, there u m, moved_unfolds c.circuit c.order (place_of table u) node unfolds),
            subst (λ (z : Variable (List ℕ)). HasLeaf z (moved node tree)) same (moved_leaf node stands),
          )

  from_tree : (y : Variable (List ℕ)) (tree : Tree (List ℕ)) → IsPairTreeUnder c s p q tree → HasLeaf y tree → Contains (variables_in places r.vars) y
  from_tree y tree (inl own) stands =
      let u = Contains-map_from (event_variables.variable_of w) query.vars y ((variables.exactly y).1 (tree, own, stands)) in
      subst (Contains (variables_in places r.vars)) (same_variable w is ranked k table adds u.0 (within u.0 u.1) ∙ u.2) (Contains-map (variable_in places) r.vars u.0 (under.contains u.0 u.1))
  from_tree y tree (inr (node, has, unfolds)) stands =
      let u = back node has in
      let place = place_of table u.0 in
      let z : Variable ℕ = record { input = y.input; at = place } in
      let inside : Contains (variables_of table r.vars) z = (under.exactly z).1 (inr (u.0, moved place tree, u.1, moved_unfolds c.circuit c.order node place unfolds, moved_leaf place stands)) in
      let v = Contains-map_from (variable_of table) r.vars z inside in
      let at : by_rank (place_of table v.0) ≡ y.at = ap by_rank (ap (λ (t : Variable ℕ). t.at) v.2) ∙ (u.2 ∙ sym (leaf_at c.circuit c.order node y unfolds stands)) in
      let input : (variable_of table v.0).input ≡ y.input = ap (λ (t : Variable ℕ). t.input) v.2 in
      subst (Contains (variables_in places r.vars)) (by_path v.0 v.1 ∙ (λ l. record { input = input l; at = at l })) (Contains-map (variable_in places) r.vars v.0 v.1)

  all_variables : AreNodeVariables (IsPairTreeUnder c s p q) (variables_in places r.vars)
  all_variables = record {
    in_order = pairs_map (variable_in places) (λ u v. CycleBefore (variable_of table u) (variable_of table v)) NodeBefore r.vars goes under.in_order.ordered;
    exactly = λ y. (
      λ m. (let v = Contains-map_from (variable_in places) r.vars y m in to_tree y v.0 v.1 v.2),
      λ m. from_tree y m.0 m.1 m.2,
    );
  }

  -- one tree has one literal
  one_literal : asks.left_is.tree ≡ asks.right_is.tree → x.left.0 ≡ x.right.0
  one_literal e =
      let left_builds = subst (Builds w.graph (named_places w) asks.left_is.tree) (sym (ap (λ (y : Lit). y.0) asks.left)) asks.left_is.builds in
      let right_builds = subst (Builds w.graph (named_places w) asks.right_is.tree) (sym (ap (λ (y : Lit). y.0) asks.right)) asks.right_is.builds in
      let one : query.left.0 ≡ query.right.0 = Builds-one w.graph is.is_graph (named_places w) (named_distinct w is) asks.left_is.tree query.left.0 query.right.0 left_builds (subst (λ (t : Tree (List ℕ)). Builds w.graph (named_places w) t query.right.0) (sym e) right_builds) in
      let same : query.left ≡ query.right = λ i. record { 0 = one i } in
      ap (λ (l : Lit). l.0) sides.left_is ∙ (ap (λ (l : Lit). (twin_in lits l).0) same ∙ sym (ap (λ (l : Lit). l.0) sides.right_is))

  care_value : (bits : ℕ → List ℕ → Bool) (a : ℕ → Bool) → TakesBits places bits a → (value h a x.care.0 ≡ true) ↔ HasCareUnder c s p q bits
  care_value bits a takes = (
    λ e. (let both = and_true (value g a r.care.0) (value w.graph a query.care.0) (sym (care_is a) ∙ e) in
        let cared = (pair_query.care_value s w p q query is asks bits a (takes_events w is ranked k table adds bits a takes)).0 both.1 in
        (cared, meets_forth bits ((under.care_is (at_places bits) a (takes_ranks w is ranked k table adds bits a takes)).0 both.0))),
    λ m. care_is a
        ∙ true_and (value g a r.care.0) (value w.graph a query.care.0) ((under.care_is (at_places bits) a (takes_ranks w is ranked k table adds bits a takes)).1 (meets_back bits m.1))
        ((pair_query.care_value s w p q query is asks bits a (takes_events w is ranked k table adds bits a takes)).1 m.0),
  )

  pub asks_under : AreNodeVariables (IsSideTree s p q) (event_variables.variables_of w query.vars) → AsksUnder c s h places p q (event_variables.variables_of w query.vars) x
  asks_under are_sides = record {
    asked = asked_query;
    within = subst (All (λ v. v < length places)) (sym sides.vars_are)
        (All-from_each (λ v. v < length places) r.vars (λ v m. (let l = All-contains (λ u. u < length table) r.vars v under.in_order.within m in let same = length-map {Y = ℕ × List ℕ} (λ (z : ℕ × ℕ). (z.0, by_rank z.1)) table in omega (arith, l, same))));
    left_tree = asks.left_is.tree;
    right_tree = asks.right_is.tree;
    left_unfolds = asks.left_is.unfolds;
    right_unfolds = asks.right_is.unfolds;
    left_value = λ bits a takes. left_twin.same a ∙ pair_query.left_value s w p q query is asks bits a (takes_events w is ranked k table adds bits a takes);
    right_value = λ bits a takes. right_twin.same a ∙ pair_query.right_value s w p q query is asks bits a (takes_events w is ranked k table adds bits a takes);
    one_literal = one_literal;
    care_value = care_value;
    are_sides = are_sides;
    are_variables = subst (λ (vs : List ℕ). AreNodeVariables (IsPairTreeUnder c s p q) (variables_in places vs)) (sym sides.vars_are) all_variables;
  }
