-- The query of two functions on one graph and table, in one order of variables, and what its answers say of their trees.
use Rattle.std.proofs.Common.{◌≡◌, ◌≢◌, ℕ, ◌*◌, ◌^◌, ◌<◌, Bool, true, List, [], ◌∷◌, map, length, get_or, slice_get, Some, refl, sym, ◌∙◌, ap, subst, arith, inl, inr}
use Rattle.std.specs.Prelude.{◌⊎◌}
use Rattle.std.specs.List.{All, AllPairs, AllZip, Contains}
use Rattle.std.proofs.lemmas.List.Elements.{All-nil, All-cons}
use Rattle.std.proofs.lemmas.List.Kept.{AllPairs-cons}
use Rattle.std.proofs.lemmas.Option.{slice_get_within, get_or_from_slice_get}
use Rattle.circuit_theory.specs.Tree.{Tree, tree_value}
use Rattle.circuit_theory.specs.Query as query
use Rattle.circuit_theory.specs.Query.{Variable, AreVariables, HasLeaf, same_shift, pair_query, bits_of}
use Rattle.circuit_theory.proofs.Lists.{Contains-head, Contains-tail, Contains-cases, Contains-map, Contains-map_from, All-from_each, length-map}
use Rattle.circuit_theory.proofs.Sums.{AllPairs-head, AllPairs-tail}
use Rattle.base_tables.specs.Table.{AreDistinct}
use Rattle.aig.specs.declared.node.Lit.{Lit}
use Rattle.aig.specs.declared.node.Node.{Node}
use Rattle.aig.specs.declared.node.Node.TheVariants.{Input}
use Rattle.aig.specs.Graph.{IsGraph}
use Rattle.aig.specs.Cone.{IsReached}
use Rattle.aig.specs.Values.{value}
use Rattle.aig.specs.Builds.{Builds, HasTreeValues, HasValueOf}
use Rattle.aig.proofs.CoverMeaning.{value-one}
use Rattle.cbf_unfold.specs.declared.unfold_places.signal_function.Unfolded.{Unfolded}
use Rattle.cbf_unfold.specs.unfold_places.Growing.{IsNumberOf}
use Rattle.aig.proofs.Supports.{supports_tree, from_one, reached_one, constant_reaches}
use Rattle.aig.specs.Merged.{AreOrdered, IsMergeBy}
use Rattle.cbf_unfold.proofs.unfold_places.Cone.{number_among}
use Rattle.aig.proofs.Lists.{pairs_map}
use Rattle.pair_decide.specs.declared.query.Query.{Query}
use Rattle.pair_decide.specs.Queries.{IsQuery, IsLeast, Distinguishes, assigned_to, roots_of}
use Rattle.cbf_unfold.specs.shift_variables.Sequences.{bits_at}
use Rattle.cbf_unfold.specs.shift_variables.Variables.{variable_of, variables_of}
use Rattle.cbf_unfold.specs.shift_variables.Queries.{IsQueryBy}
use Rattle.cbf_unfold.proofs.shift_variables.Assignments.{assigned_alike}

-- the number of a variable in the table is that of the variable
variable_is : (places : List (ℕ × ℕ)) (v : ℕ) (x : Variable ℕ) → IsNumberOf places v x → variable_of places v ≡ x
variable_is places v x at =
    let e : get_or places v (0, 0) ≡ (x.input, x.at) = get_or_from_slice_get places v (x.input, x.at) (0, 0) at in
    λ i. record { input = (e i).0; at = (e i).1 }

pub variables_are : (places : List (ℕ × ℕ)) (vars : List ℕ) (variables : List (Variable ℕ)) → AllZip (IsNumberOf places) vars variables → variables_of places vars ≡ variables
variables_are places [] [] h = refl
variables_are places [] (x ∷ variables) h = absurd h
variables_are places (v ∷ vars) [] h = absurd h
variables_are places (v ∷ vars) (x ∷ variables) h =
    let head : variable_of places v ≡ x = variable_is places v x h.0 in
    let tail : variables_of places vars ≡ variables = variables_are places vars variables h.1 in
    cc

numbers_within : (places : List (ℕ × ℕ)) (vars : List ℕ) (variables : List (Variable ℕ)) → AllZip (IsNumberOf places) vars variables → All (λ v. v < length places) vars
numbers_within places [] [] h = All-nil (λ v. v < length places)
numbers_within places [] (x ∷ variables) h = absurd h
numbers_within places (v ∷ vars) [] h = absurd h
numbers_within places (v ∷ vars) (x ∷ variables) h =
    All-cons (λ v. v < length places) v vars (slice_get_within places v (x.input, x.at) h.0) (numbers_within places vars variables h.1)

-- pairs of a list that a function gives
pairs_from_map : {X Y : Type 0} (f : X → Y) (R : Y → Y → Type 0) (xs : List X) → AllPairs R (map f xs) → AllPairs (λ x y. R (f x) (f y)) xs
pairs_from_map f R [] h = λ i j d l m. absurd (omega arith)
pairs_from_map f R (x ∷ xs) h =
    AllPairs-cons (λ x y. R (f x) (f y)) x xs (All-from_each (λ y. R (f x) (f y)) xs (λ y k. AllPairs-head R (f x) (map f xs) h (f y) (Contains-map f xs y k)))
    (pairs_from_map f R xs (AllPairs-tail R (f x) (map f xs) h))

-- a merge has numbers of the table, in order
pub merge_in_order : {R : ℕ → ℕ → Type 0} (places : List (ℕ × ℕ)) (left right merged : List ℕ) → AreOrdered (length places) R left → AreOrdered (length places) R right → IsMergeBy R left right merged →
    AreOrdered (length places) R merged
merge_in_order places left right merged l r m = record { within = All-from_each (λ v. v < length places) merged (λ v h. from v ((m.exactly v).0 h)); ordered = m.ordered }
  where
    from : (v : ℕ) → Contains left v ⊎ Contains right v → v < length places
    from v (inl h) = subst (λ k. k < length places) h.2 (l.within h.0 v h.1)
    from v (inr h) = subst (λ k. k < length places) h.2 (r.within h.0 v h.1)

-- a list of one tree has no other
only_one : (tree other : Tree ℕ) → Contains (tree ∷ []) other → other ≡ tree
only_one tree other k = elim (Contains-cases tree other [] k) [ inl same ↦ sym same | inr n ↦ absurd (omega (arith, n.1)) ]

-- numbers of which each goes before those behind it differ
pub pairs_apart : (Before : Variable ℕ → Variable ℕ → Type 0) → ((x y : Variable ℕ) → Before x y → x ≡ y → ⊥) → (places : List (ℕ × ℕ)) (vars : List ℕ) → AllPairs (λ u v. Before (variable_of places u) (variable_of places v)) vars → AllPairs (λ u v. u ≢ v) vars
pairs_apart Before apart places vars ordered i j d below within same =
    apart (variable_of places (get_or vars i d)) (variable_of places (get_or vars j d)) (ordered i j d below within) (ap (variable_of places) same)

-- the literal is that of a tree, and the variables are the tree's leaves, each once, in this order
pub record IsTreeFunction (Before : Variable ℕ → Variable ℕ → Type 0) (g : List Node) (places : List (ℕ × ℕ)) (lit : ℕ) (vars : List ℕ) : Type 0 where
  pub tree : Tree ℕ
  pub builds : Builds g places tree lit
  pub within : lit < 2 * length g
  pub variables : List (Variable ℕ)
  pub are_variables : AreVariables Before (tree ∷ []) variables
  pub numbered : AllZip (IsNumberOf places) vars variables

module _ {Before : Variable ℕ → Variable ℕ → Type 0} {g : List Node} {places : List (ℕ × ℕ)} {lit : ℕ} {vars : List ℕ} (f : IsTreeFunction Before g places lit vars) where
  -- the variables of a function are in order
  pub function_in_order : AreOrdered (length places) (λ u v. Before (variable_of places u) (variable_of places v)) vars
  function_in_order = record {
    within = numbers_within places vars f.variables f.numbered;
    ordered = pairs_from_map (variable_of places) Before vars (subst (AllPairs Before) (sym (variables_are places vars f.variables f.numbered)) f.are_variables.in_order);
  }

  -- each variable in the cone of its literal is one of them
  pub function_covers : IsGraph g → AreDistinct places → (k v : ℕ) → IsReached g (lit ∷ []) k → slice_get g k ≡ Some (Input v) → Contains vars v
  function_covers graph distinct k v reached at =
      supports_tree g graph (Contains vars) places f.tree lit f.builds
      (λ z w leaf place. number_among places vars f.variables distinct f.numbered z w ((f.are_variables.exactly z).1 (f.tree, Contains-head f.tree [], leaf)) place)
      k v (from_one g lit reached) at

-- A query of two functions on one graph and table. What is known of either function gives that it is a tree's.
pub record AsksTwo (Before : Variable ℕ → Variable ℕ → Type 0) (g : List Node) (places : List (ℕ × ℕ)) (l r : Unfolded) (q : Query) {Left Right : Type 0}
    (left_tree_of : Left → IsTreeFunction Before g places l.lit.0 l.vars) (right_tree_of : Right → IsTreeFunction Before g places r.lit.0 r.vars) : Type 0 where
  pub graph : IsGraph g
  pub distinct : AreDistinct places
  pub values : HasTreeValues g
  pub left_is : Left
  pub right_is : Right
  pub asks : IsQueryBy (λ u v. Before (variable_of places u) (variable_of places v)) l r q

module _ {Before : Variable ℕ → Variable ℕ → Type 0} {g : List Node} {places : List (ℕ × ℕ)} {l r : Unfolded} {q : Query} {Left Right : Type 0} {left_tree_of : Left → IsTreeFunction Before g places l.lit.0 l.vars}
    {right_tree_of : Right → IsTreeFunction Before g places r.lit.0 r.vars} (x : AsksTwo Before g places l r q left_tree_of right_tree_of) where
  abbrev left_function : IsTreeFunction Before g places l.lit.0 l.vars
  left_function = left_tree_of x.left_is

  abbrev right_function : IsTreeFunction Before g places r.lit.0 r.vars
  right_function = right_tree_of x.right_is

  abbrev pub left_tree : Tree ℕ
  left_tree = left_function.tree

  abbrev pub right_tree : Tree ℕ
  right_tree = right_function.tree

  pub query_in_order : AreOrdered (length places) (λ u v. Before (variable_of places u) (variable_of places v)) q.vars
  query_in_order = merge_in_order places l.vars r.vars q.vars (function_in_order left_function) (function_in_order right_function) x.asks.variables_are

  left_lit : q.left.0 ≡ l.lit.0
  left_lit = ap (λ (y : Lit). y.0) x.asks.left_is

  right_lit : q.right.0 ≡ r.lit.0
  right_lit = ap (λ (y : Lit). y.0) x.asks.right_is

  -- the variables of both trees
  variables_from : (y : Variable ℕ) (v : ℕ) → variable_of places v ≡ y → Contains l.vars v ⊎ Contains r.vars v → (tree : Tree ℕ) × Contains (left_tree ∷ right_tree ∷ []) tree × HasLeaf y tree
  variables_from y v e (inl h) =
      let here : Contains left_function.variables y =
      subst (λ (ys : List (Variable ℕ)). Contains ys y) (variables_are places l.vars left_function.variables left_function.numbered) (subst (Contains (variables_of places l.vars)) e (Contains-map (variable_of places) l.vars v h)) in
      let leaf = (left_function.are_variables.exactly y).0 here in
      (left_tree, Contains-head left_tree (right_tree ∷ []), subst (HasLeaf y) (only_one left_tree leaf.0 leaf.1) leaf.2)
  variables_from y v e (inr h) =
      let here : Contains right_function.variables y =
      subst (λ (ys : List (Variable ℕ)). Contains ys y) (variables_are places r.vars right_function.variables right_function.numbered) (subst (Contains (variables_of places r.vars)) e (Contains-map (variable_of places) r.vars v h)) in
      let leaf = (right_function.are_variables.exactly y).0 here in
      (right_tree, Contains-tail left_tree right_tree (right_tree ∷ []) (Contains-head right_tree []), subst (HasLeaf y) (only_one right_tree leaf.0 leaf.1) leaf.2)

  variables_to : (y : Variable ℕ) (tree : Tree ℕ) → (left_tree ≡ tree) ⊎ Contains (right_tree ∷ []) tree → HasLeaf y tree → (v : ℕ) × Contains q.vars v × (variable_of places v ≡ y)
  variables_to y tree (inl same) is_leaf =
      let here : Contains left_function.variables y = (left_function.are_variables.exactly y).1 (left_tree, Contains-head left_tree [], subst (HasLeaf y) (sym same) is_leaf) in
      let v = Contains-map_from (variable_of places) l.vars y (subst (λ (ys : List (Variable ℕ)). Contains ys y) (sym (variables_are places l.vars left_function.variables left_function.numbered)) here) in
      (v.0, (x.asks.variables_are.exactly v.0).1 (inl v.1), v.2)
  variables_to y tree (inr k) is_leaf =
      let here : Contains right_function.variables y = (right_function.are_variables.exactly y).1 (tree, k, is_leaf) in
      let v = Contains-map_from (variable_of places) r.vars y (subst (λ (ys : List (Variable ℕ)). Contains ys y) (sym (variables_are places r.vars right_function.variables right_function.numbered)) here) in
      (v.0, (x.asks.variables_are.exactly v.0).1 (inr v.1), v.2)

  pub are_variables : AreVariables Before (left_tree ∷ right_tree ∷ []) (variables_of places q.vars)
  are_variables = record {
    in_order = pairs_map (variable_of places) (λ u v. Before (variable_of places u) (variable_of places v)) Before q.vars (λ u v hu hv before. before) x.asks.variables_are.ordered;
    exactly = λ y. (
      λ h. let v = Contains-map_from (variable_of places) q.vars y h in variables_from y v.0 v.2 ((x.asks.variables_are.exactly v.0).0 v.1),
      λ h. let v = variables_to y h.0 (Contains-cases left_tree h.0 (right_tree ∷ []) h.1) h.2 in subst (Contains (variables_of places q.vars)) v.2 (Contains-map (variable_of places) q.vars v.0 v.1),
    );
  }

  -- what holds of the leaves of both trees holds of each variable
  pub each_variable : (F : Variable ℕ → Type 0) → ((y : Variable ℕ) → HasLeaf y left_tree → F y) → ((y : Variable ℕ) → HasLeaf y right_tree → F y) → (v : ℕ) → Contains q.vars v → F (variable_of places v)
  each_variable F on_left on_right v h =
      let leaf = variables_from (variable_of places v) v refl ((x.asks.variables_are.exactly v).0 h) in
      go leaf.0 (Contains-cases left_tree leaf.0 (right_tree ∷ []) leaf.1) leaf.2
    where
      go : (tree : Tree ℕ) → (left_tree ≡ tree) ⊎ Contains (right_tree ∷ []) tree → HasLeaf (variable_of places v) tree → F (variable_of places v)
      go tree (inl same) is_leaf = on_left (variable_of places v) (subst (HasLeaf (variable_of places v)) (sym same) is_leaf)
      go tree (inr k) is_leaf = on_right (variable_of places v) (subst (HasLeaf (variable_of places v)) (only_one right_tree tree k) is_leaf)

  -- the query is one of the graph
  covers : (k v : ℕ) → IsReached g (roots_of q) k → slice_get g k ≡ Some (Input v) → Contains q.vars v
  covers k v reached at = go (reached_one g (roots_of q) k reached)
    where
      left_covers : (y : ℕ) → y ≡ l.lit.0 → IsReached g (y ∷ []) k → Contains q.vars v
      left_covers y e h = (x.asks.variables_are.exactly v).1 (inl (function_covers left_function x.graph x.distinct k v (subst (λ z. IsReached g (z ∷ []) k) e h) at))

      right_covers : (y : ℕ) → y ≡ r.lit.0 → IsReached g (y ∷ []) k → Contains q.vars v
      right_covers y e h = (x.asks.variables_are.exactly v).1 (inr (function_covers right_function x.graph x.distinct k v (subst (λ z. IsReached g (z ∷ []) k) e h) at))

      care_small : (y : ℕ) → (q.care.0 ≡ y) ⊎ Contains [] y → y < 2
      care_small y (inl e) = omega (arith, e, x.asks.care_is)
      care_small y (inr n) = absurd (omega (arith, n.1))

      last : (y : ℕ) → (q.right.0 ≡ y) ⊎ Contains (q.care.0 ∷ []) y → IsReached g (y ∷ []) k → Contains q.vars v
      last y (inl e) h = right_covers y (sym e ∙ right_lit) h
      last y (inr c) h = absurd (constant_reaches g y x.graph (care_small y (Contains-cases q.care.0 y [] c)) k v h at)

      first : (y : ℕ) → (q.left.0 ≡ y) ⊎ Contains (q.right.0 ∷ q.care.0 ∷ []) y → IsReached g (y ∷ []) k → Contains q.vars v
      first y (inl e) h = left_covers y (sym e ∙ left_lit) h
      first y (inr c) h = last y (Contains-cases q.right.0 y (q.care.0 ∷ []) c) h

      go : (y : ℕ) × Contains (roots_of q) y × IsReached g (y ∷ []) k → Contains q.vars v
      go (y, c, h) = first y (Contains-cases q.left.0 y (q.right.0 ∷ q.care.0 ∷ []) c) h

  pub asks_query : ((x y : Variable ℕ) → Before x y → x ≡ y → ⊥) → IsQuery g q
  asks_query apart = record {
    left = omega (arith, left_lit, left_function.within);
    right = omega (arith, right_lit, right_function.within);
    care = omega (arith, x.asks.care_is, slice_get_within g 0 _ x.graph.constant);
    distinct = pairs_apart Before apart places q.vars x.asks.variables_are.ordered;
    covers = covers;
  }

  pub left_value : HasValueOf g places q.left.0 (λ bits. tree_value bits left_tree)
  left_value bits y takes = ap (value g y) left_lit ∙ x.values places bits y left_tree l.lit.0 takes left_function.builds

  pub right_value : HasValueOf g places q.right.0 (λ bits. tree_value bits right_tree)
  right_value bits y takes = ap (value g y) right_lit ∙ x.values places bits y right_tree r.lit.0 takes right_function.builds

  pub care_holds : (y : ℕ → Bool) → value g y q.care.0 ≡ true
  care_holds y = ap (value g y) x.asks.care_is ∙ value-one g x.graph y

  -- the bits of the query's variables, as those of inputs at shifts
  pub takes_bits : (bits : List Bool) (v : ℕ) (p : ℕ × ℕ) → slice_get places v ≡ Some p → assigned_to q.vars bits v ≡ bits_at places q.vars bits p.0 p.1
  takes_bits bits v p at = assigned_alike places q.vars bits x.distinct query_in_order.within v p at

  pub left_at_bits : (bits : List Bool) → value g (assigned_to q.vars bits) q.left.0 ≡ tree_value (bits_at places q.vars bits) left_tree
  left_at_bits bits = left_value (bits_at places q.vars bits) (assigned_to q.vars bits) (takes_bits bits)

  pub right_at_bits : (bits : List Bool) → value g (assigned_to q.vars bits) q.right.0 ≡ tree_value (bits_at places q.vars bits) right_tree
  right_at_bits bits = right_value (bits_at places q.vars bits) (assigned_to q.vars bits) (takes_bits bits)

  pub trees_differ : (bits : List Bool) → Distinguishes g q (assigned_to q.vars bits) → query.Distinguishes (pair_query left_tree right_tree) (bits_at places q.vars bits)
  trees_differ bits d = record { care = refl; differs = λ e. d.differ (left_at_bits bits ∙ (e ∙ sym (right_at_bits bits))) }

  lits_differ : (bits : List Bool) → query.Distinguishes (pair_query left_tree right_tree) (bits_at places q.vars bits) → Distinguishes g q (assigned_to q.vars bits)
  lits_differ bits d = record { care = care_holds (assigned_to q.vars bits); differ = λ e. d.differs (sym (left_at_bits bits) ∙ (e ∙ right_at_bits bits)) }

  pub variables_long : length (variables_of places q.vars) ≡ length q.vars
  variables_long = length-map (variable_of places) q.vars

  -- the least number is least for the trees
  pub least_is : (number : ℕ) → IsLeast g q number → query.IsLeast same_shift (pair_query left_tree right_tree) (variables_of places q.vars) number
  least_is number h = record {
    in_range = subst (λ n. number < 2 ^ n) (sym variables_long) h.in_range;
    distinguishes = subst (λ n. query.Distinguishes (pair_query left_tree right_tree) (bits_at places q.vars (bits_of number n))) (sym variables_long) (trees_differ (bits_of number (length q.vars)) h.distinguishes);
    least = λ m below d. h.least m below (lits_differ (bits_of m (length q.vars)) (subst (λ n. query.Distinguishes (pair_query left_tree right_tree) (bits_at places q.vars (bits_of m n))) variables_long d));
  }
