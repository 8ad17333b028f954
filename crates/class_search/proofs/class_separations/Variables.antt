-- The variables of class queries, and the frames of their assignments.
use Rattle.std.proofs.Common.{◌≡◌, ◌∙◌, ◌<◌, ℕ, Bool, true, false, cond, List, [], ◌∷◌, length, map, get_or, slice_get, Some, refl, sym, ap, subst, arith, inl, inr, length-append}
use Rattle.std.specs.Prelude.{◌⊎◌, ◌==◌, ◌&&◌, Contains}
use Rattle.std.specs.List.{All, AllPairs}
use Rattle.std.proofs.lemmas.List.{get_or_append_left, get_or-map}
use Rattle.std.proofs.lemmas.List.Elements.{All-contains, All-head, All-tail}
use Rattle.std.proofs.lemmas.Option.{slice_get-get_or, get_or_from_slice_get}
use Rattle.circuit_theory.specs.Names.{same_name}
use Rattle.circuit_theory.specs.Query.{Variable, HasLeaf}
use Rattle.circuit_theory.specs.Tree.{Tree}
use Rattle.circuit_theory.proofs.Inputs.{test_same, test_refl, same_name-sound}
use Rattle.circuit_theory.proofs.Lists.{length-map, map_same, Contains-map, Contains-map_from}
use Rattle.circuit_theory.proofs.Numbers.{same_name-refl}
use Rattle.circuit_theory.specs.EventFrames.{IsClassTree, AreNodeVariables, frame_of}
use Rattle.circuit_theory.specs.Frame.{EventSide, NodeBefore}
use Rattle.event_nodes.specs.Nodes.{EventGraphView, IsEventGraph, GrowsEvents, named_places, path_of}
use Rattle.event_nodes.proofs.Paths.{named_grows}
use Rattle.class_search.specs.event_variables.Variables.{GoesBefore, IsMergeOf, variable_of, variables_of}
use Rattle.class_search.proofs.event_variables.Named.{named_distinct}
use Rattle.pair_decide.specs.Queries.{assigned_to}
use Rattle.edbf_unfold.specs.Laws.{TakesFrame}

module _ (w x : EventGraphView) (is : IsEventGraph w) (grows : GrowsEvents w x) where
  pub variable_same : (v : ℕ) → v < length w.places → variable_of x v ≡ variable_of w v
  variable_same v inside =
      let more = named_grows w x is grows in
      let long : length (named_places w) ≡ length w.places = length-map (λ (p : ℕ × ℕ). (p.0, path_of w.children p.1)) w.places in
      let at : v < length (named_places w) = omega (arith, inside, long) in
      ap (λ (p : ℕ × List ℕ). let y : Variable (List ℕ) = record { input = p.0; at = p.1 } in y) (ap (λ (ps : List (ℕ × List ℕ)). get_or ps v (0, [])) more.1 ∙ get_or_append_left (named_places w) more.0 (0, []) v at)

  -- numbers of variables stand for the same while the graph grows
  pub variables_same : (vars : List ℕ) → All (λ v. v < length w.places) vars → variables_of x vars ≡ variables_of w vars
  variables_same vars within = map_same (variable_of x) (variable_of w) vars (λ v h. variable_same v (All-contains (λ u. u < length w.places) vars v within h))

  pub within_later : (vars : List ℕ) → All (λ v. v < length w.places) vars → All (λ v. v < length x.places) vars
  within_later vars within i d inside = let low = within i d inside in let e = ap length grows.places.1 in omega (arith, low, e, length-append w.places grows.places.0)

module _ (w : EventGraphView) (is : IsEventGraph w) (v : ℕ) (p : ℕ × List ℕ) (at : slice_get (named_places w) v ≡ Some p) where
  here : get_or (named_places w) v (0, []) ≡ p
  here = get_or_from_slice_get (named_places w) v p (0, []) at

  -- the test of a variable's place is that of its number
  own_test : (u : ℕ) → u ≡ v → (((variable_of w u).input == p.0) && same_name (variable_of w u).at p.1) ≡ true
  own_test u same =
      let there : get_or (named_places w) u (0, []) ≡ p = ap (λ (n : ℕ). get_or (named_places w) n (0, [])) same ∙ here in
      subst (λ (q : ℕ × List ℕ). ((q.0 == p.0) && same_name q.1 p.1) ≡ true) (sym there) (λ i. test_refl p.0 i && same_name-refl p.1 i)

  both : (b c : Bool) → b && c ≡ true → (b ≡ true) × (c ≡ true)
  both true c h = (refl, h)
  both false c h = absurd (no h)
    where
      no : false ≡ true → ⊥
      no e = cc

  same_number : (u : ℕ) → u < length w.places → (((variable_of w u).input == p.0) && same_name (variable_of w u).at p.1) ≡ true → u ≡ v
  same_number u inside test =
      let parts = both ((variable_of w u).input == p.0) (same_name (variable_of w u).at p.1) test in
      let long : length (named_places w) ≡ length w.places = length-map (λ (q : ℕ × ℕ). (q.0, path_of w.children q.1)) w.places in
      let place : get_or (named_places w) u (0, []) ≡ p = λ i. (test_same (variable_of w u).input p.0 parts.0 i, same_name-sound (variable_of w u).at p.1 parts.1 i) in
      named_distinct w is u v p (slice_get-get_or (named_places w) u (0, []) (omega (arith, inside, long)) ∙ ap Some place) at

  found : (vars : List ℕ) (bits : List Bool) → All (λ u. u < length w.places) vars → assigned_to vars bits v ≡ frame_of (variables_of w vars) bits p.0 p.1
  found [] bits within = refl
  found (u ∷ us) [] within = refl
  found (u ∷ us) (b ∷ bs) within = go (u == v) refl (((variable_of w u).input == p.0) && same_name (variable_of w u).at p.1) refl (found us bs (All-tail (λ n. n < length w.places) u us within))
    where
      first : u < length w.places
      first = All-head (λ n. n < length w.places) u us within

      no : {t : Bool} → t ≡ true → t ≡ false → ⊥
      no e f = cc

      go : (t : Bool) → (u == v) ≡ t → (s : Bool) → (((variable_of w u).input == p.0) && same_name (variable_of w u).at p.1) ≡ s → assigned_to us bs v ≡ frame_of (variables_of w us) bs p.0 p.1 →
          cond (u == v) b (assigned_to us bs v) ≡ cond (((variable_of w u).input == p.0) && same_name (variable_of w u).at p.1) b (frame_of (variables_of w us) bs p.0 p.1)
      go true e true f rest = ap (λ (t : Bool). cond t b (assigned_to us bs v)) e ∙ sym (ap (λ (s : Bool). cond s b (frame_of (variables_of w us) bs p.0 p.1)) f)
      go false e false f rest = ap (λ (t : Bool). cond t b (assigned_to us bs v)) e ∙ (rest ∙ sym (ap (λ (s : Bool). cond s b (frame_of (variables_of w us) bs p.0 p.1)) f))
      go true e false f rest = absurd (no (own_test u (test_same u v e)) f)
      go false e true f rest = absurd (no (subst (λ (n : ℕ). (u == n) ≡ true) (same_number u first f) (test_refl u)) e)

-- the assignment of a query's variables is that of the frame in which they have these bits
pub takes_bits : (w : EventGraphView) → IsEventGraph w → (vars : List ℕ) (bits : List Bool) → All (λ v. v < length w.places) vars → TakesFrame w (frame_of (variables_of w vars) bits) (assigned_to vars bits)
takes_bits w is vars bits within v p at = found w is v p at vars bits within

in_order_of : (w : EventGraphView) (vars : List ℕ) → AllPairs (GoesBefore w) vars → AllPairs NodeBefore (variables_of w vars)
in_order_of w vars ordered i j d l m = go vars refl
  where
    go : (vs : List ℕ) → vs ≡ vars → NodeBefore (get_or (map (variable_of w) vars) i d) (get_or (map (variable_of w) vars) j d)
    go [] e = absurd (let z = ap (λ (y : List ℕ). length (map (variable_of w) y)) e in omega (arith, z, m))
    go (v ∷ vs) e =
        let many : length (map (variable_of w) vars) ≡ length vars = length-map (variable_of w) vars in
        let j_in : j < length vars = omega (arith, m, many) in
        let at_i = get_or-map (variable_of w) vars i v d (omega (arith, l, j_in)) in
        let at_j = get_or-map (variable_of w) vars j v d j_in in
        subst (λ (y : Variable (List ℕ)). NodeBefore y (get_or (map (variable_of w) vars) j d)) (sym at_i) (subst (NodeBefore (variable_of w (get_or vars i v))) (sym at_j) (ordered i j v l j_in))

-- the variables of two enables, merged, are those of the query of the two
pub merged_variables : {P : Type 0} (s : EventSide P) (p u : P) (w : EventGraphView) (left right merged : List ℕ) → IsMergeOf w left right merged → AreNodeVariables (IsClassTree s p p) (variables_of w left) → AreNodeVariables (IsClassTree s u u) (variables_of w right) →
    AreNodeVariables (IsClassTree s p u) (variables_of w merged)
merged_variables s p u w left right merged is lefts rights = record {
  in_order = in_order_of w merged is.ordered;
  exactly = λ y. (λ h. from y h, λ t. into y t.0 t.2 t.1);
}
  where
    first : (t : Tree (List ℕ)) → IsClassTree s p p t → IsClassTree s p u t
    first t (inl (inl k)) = inl (inl k)
    first t (inl (inr k)) = inl (inl k)
    first t (inr (inl k)) = inr (inl k)
    first t (inr (inr k)) = inr (inl k)

    second : (t : Tree (List ℕ)) → IsClassTree s u u t → IsClassTree s p u t
    second t (inl (inl k)) = inl (inr k)
    second t (inl (inr k)) = inl (inr k)
    second t (inr (inl k)) = inr (inr k)
    second t (inr (inr k)) = inr (inr k)

    from : (y : Variable (List ℕ)) → Contains (variables_of w merged) y → (t : Tree (List ℕ)) × IsClassTree s p u t × HasLeaf y t
    from y h =
        let v = Contains-map_from (variable_of w) merged y h in
        go v.0 v.2 ((is.exactly v.0).0 v.1)
      where
        go : (v : ℕ) → variable_of w v ≡ y → Contains left v ⊎ Contains right v → (t : Tree (List ℕ)) × IsClassTree s p u t × HasLeaf y t
        go v e (inl k) = let t = (lefts.exactly y).0 (subst (Contains (variables_of w left)) e (Contains-map (variable_of w) left v k)) in (t.0, first t.0 t.1, t.2)
        go v e (inr k) = let t = (rights.exactly y).0 (subst (Contains (variables_of w right)) e (Contains-map (variable_of w) right v k)) in (t.0, second t.0 t.1, t.2)

    of_left : (y : Variable (List ℕ)) → Contains (variables_of w left) y → Contains (variables_of w merged) y
    of_left y h = let v = Contains-map_from (variable_of w) left y h in subst (Contains (variables_of w merged)) v.2 (Contains-map (variable_of w) merged v.0 ((is.exactly v.0).1 (inl v.1)))

    of_right : (y : Variable (List ℕ)) → Contains (variables_of w right) y → Contains (variables_of w merged) y
    of_right y h = let v = Contains-map_from (variable_of w) right y h in subst (Contains (variables_of w merged)) v.2 (Contains-map (variable_of w) merged v.0 ((is.exactly v.0).1 (inr v.1)))

    into : (y : Variable (List ℕ)) (t : Tree (List ℕ)) → HasLeaf y t → IsClassTree s p u t → Contains (variables_of w merged) y
    into y t held (inl (inl k)) = of_left y ((lefts.exactly y).1 (t, inl (inl k), held))
    into y t held (inl (inr k)) = of_right y ((rights.exactly y).1 (t, inl (inl k), held))
    into y t held (inr (inl k)) = of_left y ((lefts.exactly y).1 (t, inr (inl k), held))
    into y t held (inr (inr k)) = of_right y ((rights.exactly y).1 (t, inr (inl k), held))
