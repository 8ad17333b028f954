-- What the answers to a query under an assumption say of the trees of its sides.
use Rattle.std.proofs.Common.{◌≡◌, ℕ, ◌^◌, ◌<◌, Bool, true, List, [], ◌∷◌, length, get_or, slice_get, Some, refl, sym, ◌∙◌, ap, subst, arith, inl, inr}
use Rattle.std.specs.Prelude.{◌⊎◌, ◌↔◌}
use Rattle.std.specs.List.{Contains}
use Rattle.std.proofs.lemmas.Option.{get_or_from_slice_get}
use Rattle.circuit_theory.specs.Tree.{Tree, tree_value}
use Rattle.circuit_theory.specs.Query as query
use Rattle.circuit_theory.specs.Query.{Variable, HasLeaf, assigned, same_shift, bits_of}
use Rattle.circuit_theory.proofs.Lists.{Contains-cases, Contains-head, Contains-map, Contains-map_from, Contains-tail, length-map, only}
use Rattle.aig.specs.declared.node.Lit.{Lit}
use Rattle.aig.specs.declared.node.Node.{Node}
use Rattle.aig.specs.declared.node.Node.TheVariants.{Input}
use Rattle.aig.specs.Cone.{IsReached}
use Rattle.aig.specs.Values.{value}
use Rattle.pair_decide.specs.declared.query.Query.{Query}
use Rattle.pair_decide.specs.Queries.{IsQuery, IsSame, IsLeast, Distinguishes, assigned_to, roots_of}
use Rattle.pair_decide.specs.Answers.{IsDifference}
use Rattle.cbf_unfold.specs.unfold_places.Growing.{TakesBits}
use Rattle.cbf_unfold.proofs.unfold_places.Lists.{pairs_map}
use Rattle.aig.proofs.Supports.{reached_one}
use Rattle.cbf_unfold.specs.shift_variables.Variables.{variable_of, variables_of}
use Rattle.cbf_unfold.proofs.shift_variables.Assignments.{assigned_alike}
use Rattle.cbf_unfold.specs.shift_variables.query_places.Places.{place_of}
use Rattle.assume_laws.specs.Assume.{Assumption, RowMeets, PlaceUnfolds, HasVariableAt, MeetsAtVariables}
use Rattle.assume_laws.specs.Sequences.{IsTreeUnder, AreVariablesUnder, IsPairQueryUnder, IsDifferenceUnder}
use Rattle.assume_queries.specs.declared.assume_answers.order.VariableOrder.{VariableOrder}
use Rattle.assume_queries.specs.declared.assume_answers.order.VariableOrder.TheVariants as order
use Rattle.assume_queries.specs.assume_answers.Order.{GoesFirst}
use Rattle.assume_queries.specs.assume_answers.Under.{MeetsAtEach, ReadsAtOne}
use Rattle.assume_queries.specs.assume_answers.Laws.{AsksUnder, AnswersUnder}

reached_among : (g : List Node) (x : ℕ) (roots : List ℕ) → Contains roots x → {k : ℕ} → IsReached g (x ∷ []) k → IsReached g roots k
reached_among g x roots among (IsReached.root y h) = IsReached.root y (subst (Contains roots) (only x y h) among)
reached_among g x roots among (IsReached.operand n y node rest at reads) = IsReached.operand n y node (reached_among g x roots among rest) at reads

-- variables in order differ
apart : (o : VariableOrder) (x y : Variable ℕ) → GoesFirst o x y → x ≡ y → ⊥
apart order.Shifts x y (inl h) e = omega (arith, h, ap (λ (v : Variable ℕ). v.at) e)
apart order.Shifts x y (inr h) e = omega (arith, h.1, ap (λ (v : Variable ℕ). v.input) e)
apart order.Cycles x y (inl h) e = omega (arith, h, ap (λ (v : Variable ℕ). v.at) e)
apart order.Cycles x y (inr h) e = omega (arith, h.1, ap (λ (v : Variable ℕ). v.input) e)

module _ (o : VariableOrder) (c : Assumption) (g : List Node) (table : List (ℕ × ℕ)) (left right : Tree ℕ) (q r : Query) (x : AsksUnder o c g table left right q r) where
  left_lit : r.left.0 ≡ q.left.0
  left_lit = ap (λ (l : Lit). l.0) x.under.left_is

  right_lit : r.right.0 ≡ q.right.0
  right_lit = ap (λ (l : Lit). l.0) x.under.right_is

  left_value : (bits : ℕ → ℕ → Bool) (a : ℕ → Bool) → TakesBits table bits a → value g a r.left.0 ≡ tree_value bits left
  left_value bits a takes = ap (value g a) left_lit ∙ x.left_value bits a takes

  right_value : (bits : ℕ → ℕ → Bool) (a : ℕ → Bool) → TakesBits table bits a → value g a r.right.0 ≡ tree_value bits right
  right_value bits a takes = ap (value g a) right_lit ∙ x.right_value bits a takes

  -- the bits of the graph's variables
  taken : (ℕ → ℕ → Bool) → ℕ → Bool
  taken bits v = bits (get_or table v (0, 0)).0 (get_or table v (0, 0)).1

  takes : (bits : ℕ → ℕ → Bool) → TakesBits table bits (taken bits)
  unfolding taken
  takes bits v p at = ap (λ (z : ℕ × ℕ). bits z.0 z.1) (get_or_from_slice_get table v p (0, 0) at)

  -- a place of both trees is one of the query's variables, and the other way round
  variable_there : (k : ℕ) → HasVariableAt left right k → (v : ℕ) × Contains q.vars v × (place_of table v ≡ k)
  variable_there k (tree, i, one, stands) =
      let v = Contains-map_from (variable_of table) q.vars (record { input = i; at = k }) ((x.sides.exactly (record { input = i; at = k })).1 (tree, one, stands)) in
      (v.0, v.1, ap (λ (z : Variable ℕ). z.at) v.2)

  there : (v : ℕ) → Contains q.vars v → HasVariableAt left right (place_of table v)
  there v h = let l = (x.sides.exactly (variable_of table v)).0 (Contains-map (variable_of table) q.vars v h) in (l.0, (variable_of table v).input, l.1, l.2)

  forth : (bits : ℕ → ℕ → Bool) → MeetsAtVariables c left right bits → MeetsAtEach c table q.vars bits
  forth bits h v k = h (place_of table v) (there v k)

  back : (bits : ℕ → ℕ → Bool) → MeetsAtEach c table q.vars bits → MeetsAtVariables c left right bits
  back bits h k has = let v = variable_there k has in subst (λ (p : ℕ). RowMeets c (λ i. bits i p)) v.2 (h v.0 v.1)

  -- the query is one of the graph
  covers : (k v : ℕ) → IsReached g (roots_of r) k → slice_get g k ≡ Some (Input v) → Contains r.vars v
  covers k v reached at = let one = reached_one g (roots_of r) k reached in go one.0 (Contains-cases r.left.0 one.0 (r.right.0 ∷ r.care.0 ∷ []) one.1) one.2
    where
      among_left : Contains (roots_of q) q.left.0
      among_left = Contains-head q.left.0 (q.right.0 ∷ q.care.0 ∷ [])

      among_right : Contains (roots_of q) q.right.0
      among_right = Contains-tail q.left.0 q.right.0 (q.right.0 ∷ q.care.0 ∷ []) (Contains-head q.right.0 (q.care.0 ∷ []))

      old : (y z : ℕ) → y ≡ z → Contains (roots_of q) z → IsReached g (y ∷ []) k → Contains r.vars v
      old y z e among h = x.under.contains v (x.asked.covers k v (reached_among g z (roots_of q) among (subst (λ (w : ℕ). IsReached g (w ∷ []) k) e h)) at)

      last : (y : ℕ) → (r.right.0 ≡ y) ⊎ Contains (r.care.0 ∷ []) y → IsReached g (y ∷ []) k → Contains r.vars v
      last y (inl e) h = old y q.right.0 (sym e ∙ right_lit) among_right h
      last y (inr m) h = x.under.reads k v (subst (λ (w : ℕ). IsReached g (w ∷ []) k) (sym (only r.care.0 y m)) h) at

      go : (y : ℕ) → (r.left.0 ≡ y) ⊎ Contains (r.right.0 ∷ r.care.0 ∷ []) y → IsReached g (y ∷ []) k → Contains r.vars v
      go y (inl e) h = old y q.left.0 (sym e ∙ left_lit) among_left h
      go y (inr m) h = last y (Contains-cases r.right.0 y (r.care.0 ∷ []) m) h

  is_query : IsQuery g r
  is_query = record {
    left = omega (arith, left_lit, x.asked.left);
    right = omega (arith, right_lit, x.asked.right);
    care = x.under.within;
    distinct = λ i j d below inside e. apart o (variable_of table (get_or r.vars i d)) (variable_of table (get_or r.vars j d)) (x.under.in_order.ordered i j d below inside) (ap (variable_of table) e);
    covers = covers;
  }

  same : IsSame g r → (bits : ℕ → ℕ → Bool) → MeetsAtVariables c left right bits → tree_value bits left ≡ tree_value bits right
  same h bits meets =
      let a = taken bits in
      let care = (x.under.care_is bits a (takes bits)).1 (forth bits meets) in
      sym (left_value bits a (takes bits)) ∙ (h a care ∙ right_value bits a (takes bits))

  -- the query of both trees under the assumption
  abbrev asks : query.Query ℕ
  asks = record { left = λ bits. tree_value bits left; right = λ bits. tree_value bits right; care = λ bits. value g (taken bits) r.care.0 }

  asks_under : IsPairQueryUnder c left right asks
  asks_under = record {
    left_is = λ bits. refl;
    right_is = λ bits. refl;
    care_is = λ bits. (λ e. back bits ((x.under.care_is bits (taken bits) (takes bits)).0 e), λ h. (x.under.care_is bits (taken bits) (takes bits)).1 (forth bits h));
  }

  abbrev spread : List Bool → ℕ → ℕ → Bool
  spread bits = assigned same_shift (variables_of table r.vars) bits

  takes_bits : (bits : List Bool) → TakesBits table (spread bits) (assigned_to r.vars bits)
  takes_bits bits v p at = assigned_alike table r.vars bits x.distinct x.under.in_order.within v p at

  trees_differ : (bits : List Bool) → Distinguishes g r (assigned_to r.vars bits) → query.Distinguishes asks (spread bits)
  trees_differ bits d = record {
    care =
        let meets = (x.under.care_is (spread bits) (assigned_to r.vars bits) (takes_bits bits)).0 d.care in
        (x.under.care_is (spread bits) (taken (spread bits)) (takes (spread bits))).1 meets;
    differs = λ e. d.differ (left_value (spread bits) (assigned_to r.vars bits) (takes_bits bits) ∙ (e ∙ sym (right_value (spread bits) (assigned_to r.vars bits) (takes_bits bits))));
  }

  lits_differ : (bits : List Bool) → query.Distinguishes asks (spread bits) → Distinguishes g r (assigned_to r.vars bits)
  lits_differ bits d = record {
    care =
        let meets = (x.under.care_is (spread bits) (taken (spread bits)) (takes (spread bits))).0 d.care in
        (x.under.care_is (spread bits) (assigned_to r.vars bits) (takes_bits bits)).1 meets;
    differ = λ e. d.differs (sym (left_value (spread bits) (assigned_to r.vars bits) (takes_bits bits)) ∙ (e ∙ right_value (spread bits) (assigned_to r.vars bits) (takes_bits bits)));
  }

  long : length (variables_of table r.vars) ≡ length r.vars
  long = length-map (variable_of table) r.vars

  least_is : (number : ℕ) → IsLeast g r number → query.IsLeast same_shift asks (variables_of table r.vars) number
  least_is number h = record {
    in_range = subst (λ n. number < 2 ^ n) (sym long) h.in_range;
    distinguishes = subst (λ n. query.Distinguishes asks (spread (bits_of number n))) (sym long) (trees_differ (bits_of number (length r.vars)) h.distinguishes);
    least = λ m below d. h.least m below (lits_differ (bits_of m (length r.vars)) (subst (λ n. query.Distinguishes asks (spread (bits_of m n))) long d));
  }

  are_variables : AreVariablesUnder (GoesFirst o) c left right (variables_of table r.vars)
  are_variables = record {
    in_order = pairs_map (variable_of table) (λ u v. GoesFirst o (variable_of table u) (variable_of table v)) (GoesFirst o) r.vars (λ u v hu hv before. before) x.under.in_order.ordered;
    exactly = λ y. (λ h. to y ((x.under.exactly y).0 h), λ h. (x.under.exactly y).1 (from y h.0 h.1 h.2));
  }
    where
      to : (y : Variable ℕ) → Contains (variables_of table q.vars) y ⊎ ReadsAtOne c table q.vars y → (tree : Tree ℕ) × IsTreeUnder c left right tree × HasLeaf y tree
      to y (inl h) = let l = (x.sides.exactly y).0 h in (l.0, inl l.1, l.2)
      to y (inr h) = (h.1, inr (place_of table h.0, there h.0 h.2, h.3), h.4)

      from : (y : Variable ℕ) (tree : Tree ℕ) → IsTreeUnder c left right tree → HasLeaf y tree → Contains (variables_of table q.vars) y ⊎ ReadsAtOne c table q.vars y
      from y tree (inl m) h = inl ((x.sides.exactly y).1 (tree, m, h))
      from y tree (inr (k, has, unfolds)) h =
          let v = variable_there k has in inr (v.0, tree, v.1, subst (λ (p : ℕ). PlaceUnfolds c.circuit c.order p c.output tree) (sym v.2) unfolds, h)

  difference : (bits : List Bool) → IsDifference g r bits → IsDifferenceUnder (GoesFirst o) c left right (variables_of table q.vars) (variables_of table r.vars) bits
  difference bits d = record {
    are_sides = x.sides;
    are_variables = are_variables;
    each = d.each ∙ sym long;
    query = asks;
    asks = asks_under;
    distinguishes = trees_differ bits d.distinguishes;
    least = λ few. let h = d.least (omega (arith, few, long)) in (h.0, h.1 ∙ ap (bits_of h.0) (sym long), least_is h.0 h.2);
  }

  care : (bits : ℕ → ℕ → Bool) (a : ℕ → Bool) → TakesBits table bits a → (value g a r.care.0 ≡ true) ↔ MeetsAtVariables c left right bits
  care bits a bits_are = (λ e. back bits ((x.under.care_is bits a bits_are).0 e), λ h. (x.under.care_is bits a bits_are).1 (forth bits h))

pub answers_under : AnswersUnder
answers_under o c g table left right q r x =
    (is_query o c g table left right q r x, same o c g table left right q r x, difference o c g table left right q r x, are_variables o c g table left right q r x, care o c g table left right q r x)
