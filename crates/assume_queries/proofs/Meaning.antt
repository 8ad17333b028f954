-- A query with an assumption's functions at its own places as its care is one under the assumption.
use Rattle.std.proofs.Common.{◌≡◌, ℕ, ◌<◌, Bool, true, List, [], ◌∷◌, length, slice_get, Some, sym, ◌∙◌, subst, inl, inr}
use Rattle.std.specs.Prelude.{◌⊎◌, ◌↔◌}
use Rattle.std.specs.List.{AllZip, Contains}
use Rattle.std.proofs.lemmas.List.Elements.{All-contains}
use Rattle.circuit_theory.specs.Query.{Variable, HasLeaf}
use Rattle.circuit_theory.proofs.Lists.{Contains-head, Contains-map, Contains-map_from, All-from_each, at_of, of_at}
use Rattle.flat_net.specs.View.{NetView, circuit_of}
use Rattle.aig.specs.declared.node.Lit.{Lit}
use Rattle.aig.specs.declared.node.Node.{Node}
use Rattle.aig.specs.declared.node.Node.TheVariants.{Input}
use Rattle.aig.specs.Cone.{IsReached}
use Rattle.aig.specs.Values.{value}
use Rattle.pair_decide.specs.declared.query.Query.{Query}
use Rattle.cbf_unfold.specs.declared.unfold_places.signal_function.Unfolded.{Unfolded}
use Rattle.cbf_unfold.specs.unfold_places.Growing.{IsNumberOf, TakesBits}
use Rattle.cbf_unfold.proofs.unfold_places.Zips.{zip_left}
use Rattle.cbf_unfold.specs.shift_variables.Variables.{variable_of, variables_of}
use Rattle.cbf_unfold.proofs.shift_variables.Reading.{pair_is}
use Rattle.cbf_unfold.specs.shift_variables.query_places.Places.{place_of}
use Rattle.assume_laws.specs.Assume.{Assumption, IsAssumption, RowMeets, PlaceUnfolds}
use Rattle.assume_laws.specs.assume_shape.Shape.{assumption_of}
use Rattle.assume_queries.proofs.assume_functions.Assumed.{assumed_meets}
use Rattle.assume_queries.specs.assume_functions.assume_places.Gathered.{place_at, AreOwn}
use Rattle.assume_queries.specs.assume_functions.assume_places.Placed.{ArePut}
use Rattle.assume_queries.specs.declared.assume_answers.order.VariableOrder.{VariableOrder}
use Rattle.assume_queries.specs.assume_answers.Order.{AreOrdered}
use Rattle.assume_queries.specs.Parts.{function_at, literals_at, variables_at}
use Rattle.assume_queries.specs.Made.{IsMadeOf}
use Rattle.assume_queries.specs.assume_answers.Under.{MeetsAtEach, ReadsAtOne, IsUnder}
use Rattle.assume_queries.proofs.OneTree.{place_one}
use Rattle.assume_queries.proofs.Reading.{variables_from, variables_to, put_at, variable_is, read_ordered}

module _ (n : NetView) (inputs : List ℕ) (s size : ℕ) (is : IsAssumption (assumption_of n inputs s) size) (g h : List Node) (table found : List (ℕ × ℕ)) (functions : List Unfolded) (put : ArePut n inputs s g table found functions)
    (o : VariableOrder) (q r : Query) (own : List ℕ) (are : AreOwn table found q own) (made : IsMadeOf o table g functions q own h r) where
  abbrev c : Assumption
  c = assumption_of n inputs s

  inside : (i : ℕ) → Contains own i → i < length found
  inside i k = All-contains (λ m. m < length found) own i are.within k

  -- each number of the query's own is the place of one of its variables, and the other way round
  from_own : (i : ℕ) → Contains own i → (v : ℕ) × Contains q.vars v × (place_of table v ≡ place_at found i)
  from_own i k = are.places.from (place_at found i) (Contains-map (place_at found) own i k)

  to_own : (v : ℕ) → Contains q.vars v → (i : ℕ) × Contains own i × (place_at found i ≡ place_of table v)
  to_own v k = Contains-map_from (place_at found) own (place_of table v) (are.places.all v k)

  meets : (i : ℕ) → Contains own i → (bits : ℕ → ℕ → Bool) (a : ℕ → Bool) → TakesBits table bits a → (value g a (function_at functions i).lit.0 ≡ true) ↔ RowMeets c (λ j. bits j (place_at found i))
  meets i k bits a takes = assumed_meets n inputs s size (place_at found i) g table (function_at functions i) is (put_at n inputs s g table found functions put i (inside i k)) bits a takes

  care_is : (bits : ℕ → ℕ → Bool) (a : ℕ → Bool) → TakesBits table bits a → (value h a r.care.0 ≡ true) ↔ MeetsAtEach c table q.vars bits
  care_is bits a takes = (
    λ e v k.
        let all = (made.care.worth a).0 e in
        let i = to_own v k in
        let one = All-contains (λ (l : Lit). value g a l.0 ≡ true) (literals_at functions own) (function_at functions i.0).lit all (Contains-map (λ (j : ℕ). (function_at functions j).lit) own i.0 i.1) in
        subst (λ (p : ℕ). RowMeets c (λ j. bits j p)) i.2 ((meets i.0 i.1 bits a takes).0 one),
    λ each. (made.care.worth a).1 (All-from_each (λ (l : Lit). value g a l.0 ≡ true) (literals_at functions own) (λ l k.
        let i = Contains-map_from (λ (j : ℕ). (function_at functions j).lit) own l k in
        let v = from_own i.0 i.1 in
        subst (λ (m : Lit). value g a m.0 ≡ true) i.2 ((meets i.0 i.1 bits a takes).1 (subst (λ (p : ℕ). RowMeets c (λ j. bits j p)) v.2 (each v.0 v.1))))),
  )

  reads : (k v : ℕ) → IsReached h (r.care.0 ∷ []) k → slice_get h k ≡ Some (Input v) → Contains r.vars v
  reads k v reached at =
      let one = made.care.reads k v reached at in
      let i = Contains-map_from (λ (j : ℕ). (function_at functions j).lit) own one.literal one.among in
      let there = put_at n inputs s g table found functions put i.0 (inside i.0 i.1) in
      let here = there.reads one.node v (subst (λ (m : Lit). IsReached g (m.0 ∷ []) one.node) (sym i.2) one.reached) one.at in
      (made.variables.exactly v).1 (inr (variables_to functions own i.0 v i.1 here))

  read : AreOrdered o table (variables_at functions own)
  read = read_ordered n inputs s g table found functions put o q made.sides own are.within are.places.distinct are.turn

  in_order : AreOrdered o table r.vars
  in_order = record { within = All-from_each (λ v. v < length table) r.vars (λ v k. from v ((made.variables.exactly v).0 k)); ordered = made.variables.ordered }
    where
      from : (v : ℕ) → Contains q.vars v ⊎ Contains (variables_at functions own) v → v < length table
      from v (inl k) = All-contains (λ v. v < length table) q.vars v made.sides.within k
      from v (inr k) = All-contains (λ v. v < length table) (variables_at functions own) v read.within k

  forth : (x : Variable ℕ) → Contains (variables_of table r.vars) x → Contains (variables_of table q.vars) x ⊎ ReadsAtOne c table q.vars x
  forth x k = let v = Contains-map_from (variable_of table) r.vars x k in go v.0 v.2 ((made.variables.exactly v.0).0 v.1)
    where
      go : (v : ℕ) → variable_of table v ≡ x → Contains q.vars v ⊎ Contains (variables_at functions own) v → Contains (variables_of table q.vars) x ⊎ ReadsAtOne c table q.vars x
      go v e (inl here) = inl (subst (Contains (variables_of table q.vars)) e (Contains-map (variable_of table) q.vars v here))
      go v e (inr here) =
          let i = variables_from functions own v here in
          let at = put_at n inputs s g table found functions put i.0 (inside i.0 i.1) in
          let j = at_of (function_at functions i.0).vars v i.2 in
          let y = variable_is n inputs s g table found functions put i.0 (inside i.0 i.1) j.0 v j.1 in
          let u = from_own i.0 i.1 in
          inr (u.0, at.tree, u.1, subst (λ (p : ℕ). PlaceUnfolds (circuit_of n) inputs p s at.tree) (sym u.2) at.unfolds, subst (λ (w : Variable ℕ). HasLeaf w at.tree) (sym y.3 ∙ e) y.4)

  back : (x : Variable ℕ) → Contains (variables_of table q.vars) x ⊎ ReadsAtOne c table q.vars x → Contains (variables_of table r.vars) x
  back x (inl k) =
      let v = Contains-map_from (variable_of table) q.vars x k in
      subst (Contains (variables_of table r.vars)) v.2 (Contains-map (variable_of table) r.vars v.0 ((made.variables.exactly v.0).1 (inl v.1)))
  back x (inr one) =
      let i = to_own one.0 one.2 in
      let at = put_at n inputs s g table found functions put i.0 (inside i.0 i.1) in
      let same = place_one c size is (place_at found i.0) one.1 at.tree (subst (λ (p : ℕ). PlaceUnfolds (circuit_of n) inputs p s one.1) (sym i.2) one.3) at.unfolds in
      let leaf : HasLeaf x at.tree = subst (HasLeaf x) same one.4 in
      let known = (at.are_variables.exactly x).1 (at.tree, Contains-head at.tree [], leaf) in
      let v = number (function_at functions i.0).vars at.variables at.numbered known in
      subst (Contains (variables_of table r.vars)) {x = variable_of table v.0} v.2 (Contains-map (variable_of table) r.vars v.0 ((made.variables.exactly v.0).1 (inr (variables_to functions own i.0 v.0 i.1 v.1))))
    where
      number : (vs : List ℕ) (xs : List (Variable ℕ)) → AllZip (IsNumberOf table) vs xs → Contains xs x → (v : ℕ) × Contains vs v × (variable_of table v ≡ x)
      number vs xs zip k =
          let j = at_of xs x k in
          let z = zip_left (IsNumberOf table) vs xs zip j.0 x j.1 in
          (z.0, of_at vs j.0 z.0 z.1, pair_is table z.0 (x.input, x.at) z.2)

  pub is_under : IsUnder o c h table q r
  is_under = record {
    left_is = made.left_is;
    right_is = made.right_is;
    within = made.care.within;
    care_is = care_is;
    reads = reads;
    in_order = in_order;
    contains = λ v k. (made.variables.exactly v).1 (inl k);
    exactly = λ x. (forth x, back x);
  }
