-- The assumption's query, and the row of its difference.
use Rattle.std.proofs.Common.{◌≡◌, ◌≢◌, ℕ, ◌<◌, ◌≤◌, Bool, true, false, List, [], ◌∷◌, map, length, get_or, slice_get, Some, refl, sym, ◌∙◌, ap, subst, arith, inl, inr}
use Rattle.std.specs.Prelude.{◌⊎◌}
use Rattle.std.specs.List.{All, AllPairs, AllZip, Contains}
use Rattle.std.proofs.lemmas.List.Elements.{All-nil, All-cons, All-contains}
use Rattle.std.proofs.lemmas.List.Kept.{AllPairs-cons}
use Rattle.std.proofs.lemmas.Option.{slice_get_within, get_or_from_slice_get}
use Rattle.circuit_theory.specs.Query.{Variable, HasLeaf, ShiftBefore, same_shift}
use Rattle.circuit_theory.specs.Tree.{tree_value, IsInputNumber}
use Rattle.circuit_theory.proofs.Lists.{Contains-cases, Contains-map, Contains-map_from, All-from_each, only, of_at}
use Rattle.circuit_theory.proofs.Numbers.{beside_at}
use Rattle.circuit_theory.proofs.Sums.{AllPairs-head, AllPairs-tail}
use Rattle.circuit_laws.proofs.Windows.{row_value-is}
use Rattle.circuit_laws.proofs.reset_laws.ResetWindows.{assigned_absent}
use Rattle.base_tables.specs.Table.{AreDistinct}
use Rattle.flat_net.specs.View.{NetView, circuit_of}
use Rattle.aig.specs.declared.node.Node.TheVariants.{Constant, Input}
use Rattle.aig.specs.Builds.{HasTreeValues}
use Rattle.aig.specs.Cone.{IsReached}
use Rattle.aig.specs.Graph.{IsGraph}
use Rattle.aig.specs.Values.{value}
use Rattle.aig.proofs.CoverMeaning.{value-zero, value-one}
use Rattle.assume_queries.specs.assume_functions.cbf_unfold.Unfolded.{IsNumberOf}
use Rattle.aig.proofs.Supports.{reached_one, constant_reaches}
use Rattle.assume_queries.proofs.assume_functions.cbf_unfold.Cone.{covers_cone}
use Rattle.pair_decide.specs.Queries.{IsQuery, IsSame, roots_of, assigned_to}
use Rattle.pair_decide.specs.Answers.{IsDifference}
use Rattle.cbf_unfold.specs.shift_variables.Variables.{variable_of, variables_of, AreInOrder}
use Rattle.cbf_unfold.specs.shift_variables.Sequences.{bits_at, IsSequence}
use Rattle.cbf_unfold.proofs.shift_variables.Assignments.{assigned_alike}
use Rattle.assume_laws.specs.Assume.{IsAssumption, RowMeets, PlaceUnfolds}
use Rattle.assume_laws.specs.Sequences.{IsMeetingRow}
use Rattle.assume_laws.proofs.Care.{row_same, tree_meets, unfolds_place}
use Rattle.assume_laws.proofs.Filled.{below_count}
use Rattle.assume_laws.proofs.Meeting.{leaf_input, leaf_at}
use Rattle.assume_laws.specs.assume_shape.Shape.{assumption_of}
use Rattle.assume_queries.specs.declared.assume_functions.own.OwnFunction.{OwnFunction}
use Rattle.assume_queries.specs.assume_functions.Functions.{IsOwnFunction, HasNoLatch}
use Rattle.assume_queries.specs.assume_sequences.assume_taken.Meeting.{IsRowOf, meeting_query}

-- the number of a variable in the table is that of the variable
variable_is : (places : List (ℕ × ℕ)) (v : ℕ) (x : Variable ℕ) → IsNumberOf places v x → variable_of places v ≡ x
variable_is places v x at =
    let e : get_or places v (0, 0) ≡ (x.input, x.at) = get_or_from_slice_get places v (x.input, x.at) (0, 0) at in
    λ i. record { input = (e i).0; at = (e i).1 }

variables_are : (places : List (ℕ × ℕ)) (vars : List ℕ) (variables : List (Variable ℕ)) → AllZip (IsNumberOf places) vars variables → variables_of places vars ≡ variables
variables_are places [] [] h = refl
variables_are places [] (x ∷ variables) h = absurd h
variables_are places (v ∷ vars) [] h = absurd h
variables_are places (v ∷ vars) (x ∷ variables) h =
    let head : variable_of places v ≡ x = variable_is places v x h.0 in
    let tail : variables_of places vars ≡ variables = variables_are places vars variables h.1 in
    cc

numbers_within : (places : List (ℕ × ℕ)) (vars : List ℕ) (variables : List (Variable ℕ)) → AllZip (IsNumberOf places) vars variables → All (λ v. v < length places) vars
numbers_within places [] [] h = All-nil (λ v. v < length places)
numbers_within places [] (x ∷ variables) h = absurd h
numbers_within places (v ∷ vars) [] h = absurd h
numbers_within places (v ∷ vars) (x ∷ variables) h =
    All-cons (λ v. v < length places) v vars (slice_get_within places v (x.input, x.at) h.0) (numbers_within places vars variables h.1)

-- pairs of a list that a function gives
pairs_from_map : {X Y : Type 0} (f : X → Y) (R : Y → Y → Type 0) (xs : List X) → AllPairs R (map f xs) → AllPairs (λ x y. R (f x) (f y)) xs
pairs_from_map f R [] h = λ i j d l m. absurd (omega arith)
pairs_from_map f R (x ∷ xs) h =
    AllPairs-cons (λ x y. R (f x) (f y)) x xs (All-from_each (λ y. R (f x) (f y)) xs (λ y k. AllPairs-head R (f x) (map f xs) h (f y) (Contains-map f xs y k)))
    (pairs_from_map f R xs (AllPairs-tail R (f x) (map f xs) h))

no_true : true ≡ false → ⊥
no_true e = cc

bit_true : (b : Bool) → b ≢ false → b ≡ true
bit_true true h = refl
bit_true false h = absurd (h refl)

module _ (n : NetView) (order : List ℕ) (s : ℕ) (own : OwnFunction) (is : IsOwnFunction n order s own) where
  same_variables : variables_of own.places own.function.vars ≡ is.unfolded.variables
  same_variables = variables_are own.places own.function.vars is.unfolded.variables is.unfolded.numbered

  in_order : AreInOrder own.places own.function.vars
  in_order = record {
    within = numbers_within own.places own.function.vars is.unfolded.variables is.unfolded.numbered;
    ordered = pairs_from_map (variable_of own.places) ShiftBefore own.function.vars (subst (AllPairs ShiftBefore) (sym same_variables) is.unfolded.are_variables.in_order);
  }

  -- a variable is a leaf of the tree
  leaf_of : (x : Variable ℕ) → Contains is.unfolded.variables x → HasLeaf x is.unfolded.tree
  leaf_of x h = let l = (is.unfolded.are_variables.exactly x).0 h in subst (HasLeaf x) (sym (only is.unfolded.tree l.0 l.1)) l.2

  among : (v : ℕ) → Contains own.function.vars v → Contains is.unfolded.variables (variable_of own.places v)
  among v h = subst (λ (xs : List (Variable ℕ)). Contains xs (variable_of own.places v)) same_variables (Contains-map (variable_of own.places) own.function.vars v h)

  pub is_query : IsGraph own.aig → AreDistinct own.places → IsQuery own.aig (meeting_query own)
  is_query graph distinct = record {
    left = is.unfolded.within;
    right = omega (arith, slice_get_within own.aig 0 Constant graph.constant);
    care = omega (arith, slice_get_within own.aig 0 Constant graph.constant);
    distinct = cone.0;
    covers = λ k v reached at. go k v at (reached_one own.aig (roots_of (meeting_query own)) k reached);
  }
    where
      cone : AllPairs (λ u v. u ≢ v) own.function.vars × ((k v : ℕ) → IsReached own.aig (own.function.lit.0 ∷ []) k → slice_get own.aig k ≡ Some (Input v) → Contains own.function.vars v)
      cone = covers_cone n order own.aig own.places s own.function.lit.0 own.function.vars graph distinct is.unfolded

      small : (y : ℕ) → (1 ≡ y) ⊎ Contains [] y → y < 2
      small y (inl e) = omega (arith, e)
      small y (inr k) = absurd (omega (arith, k.1))

      rest : (y : ℕ) → (0 ≡ y) ⊎ Contains (1 ∷ []) y → y < 2
      rest y (inl e) = omega (arith, e)
      rest y (inr k) = small y (Contains-cases 1 y [] k)

      first : (k v y : ℕ) → slice_get own.aig k ≡ Some (Input v) → (own.function.lit.0 ≡ y) ⊎ Contains (0 ∷ 1 ∷ []) y → IsReached own.aig (y ∷ []) k → Contains own.function.vars v
      first k v y at (inl e) reached = cone.1 k v (subst (λ z. IsReached own.aig (z ∷ []) k) (sym e) reached) at
      first k v y at (inr h) reached = absurd (constant_reaches own.aig y graph (rest y (Contains-cases 0 y (1 ∷ []) h)) k v reached at)

      go : (k v : ℕ) → slice_get own.aig k ≡ Some (Input v) → (y : ℕ) × Contains (roots_of (meeting_query own)) y × IsReached own.aig (y ∷ []) k → Contains own.function.vars v
      go k v at (y, h, reached) = first k v y at (Contains-cases own.function.lit.0 y (0 ∷ 1 ∷ []) h) reached

  pub is_sequence : (count : ℕ) (bits : List Bool) → HasNoLatch n → All (λ i. i < count) order → length bits ≡ length own.function.vars → IsSequence own.places own.function.vars bits 0 count
  is_sequence count bits gates inputs each = record {
    each = each;
    in_order = in_order;
    inputs = All-from_each (λ v. (variable_of own.places v).input < count) own.function.vars (λ v h.
        let q = leaf_input (circuit_of n) order 0 (variable_of own.places v) (unfolds_place (circuit_of n) order gates is.unfolded.unfolds) (leaf_of (variable_of own.places v) (among v h)) in
        let k = beside_at (circuit_of n).inputs order q.0 (variable_of own.places v).input q.1 in
        All-contains (λ i. i < count) order (variable_of own.places v).input inputs (of_at order k.0 (variable_of own.places v).input k.4));
    shifts = All-from_each (λ v. (variable_of own.places v).at ≤ 0) own.function.vars (λ v h.
        let e = leaf_at (circuit_of n) order 0 (variable_of own.places v) (unfolds_place (circuit_of n) order gates is.unfolded.unfolds) (leaf_of (variable_of own.places v) (among v h)) in omega (arith, e));
  }

  module _ (size : ℕ) (assumes : IsAssumption (assumption_of n order s) size) (graph : IsGraph own.aig) (trees : HasTreeValues own.aig) where
    unfolds : PlaceUnfolds (circuit_of n) order 0 s is.unfolded.tree
    unfolds = unfolds_place (circuit_of n) order assumes.gates is.unfolded.unfolds

    pub never : IsSame own.aig (meeting_query own) → (row : ℕ → Bool) → RowMeets (assumption_of n order s) row → ⊥
    never same row meets =
        let a : ℕ → Bool = λ v. row (get_or own.places v (0, 0)).0 in
        let x : ℕ → ℕ → Bool = λ i k. row i in
        let worth : value own.aig a own.function.lit.0 ≡ tree_value x is.unfolded.tree =
        trees own.places x a is.unfolded.tree own.function.lit.0 (λ v p at. ap (λ (z : ℕ × ℕ). row z.0) (get_or_from_slice_get own.places v p (0, 0) at)) is.unfolded.builds in
        no_true (sym (worth ∙ (tree_meets (assumption_of n order s) size assumes 0 is.unfolded.tree x unfolds).1 meets) ∙ (same a (value-one own.aig graph a) ∙ value-zero own.aig graph a))

    pub row_meets : (count : ℕ) (bits row : List Bool) → AreDistinct own.places → All (λ v. (variable_of own.places v).input < count) own.function.vars → IsDifference own.aig (meeting_query own) bits → IsRowOf own bits count row →
        IsMeetingRow (assumption_of n order s) count (λ i. get_or row i false)
    row_meets count bits row distinct inputs d of = record {
      meets = row_same (assumption_of n order s) (λ i. bits_at own.places own.function.vars bits i 0) (λ i. get_or row i false) (λ p i h. sym (there i))
          ((tree_meets (assumption_of n order s) size assumes 0 is.unfolded.tree (bits_at own.places own.function.vars bits) unfolds).0
          (sym worth ∙ bit_true (value own.aig (assigned_to own.function.vars bits) own.function.lit.0) (λ e. d.distinguishes.differ (e ∙ sym (value-zero own.aig graph (assigned_to own.function.vars bits))))));
      others = λ i none. there i ∙ assigned_absent same_shift (variables_of own.places own.function.vars) bits i 0 (λ y h e. none_reads i none y (subst (λ (xs : List (Variable ℕ)). Contains xs y) same_variables h) e);
      above = λ i h. there i ∙ past i h;
    }
      where
        worth : value own.aig (assigned_to own.function.vars bits) own.function.lit.0 ≡ tree_value (bits_at own.places own.function.vars bits) is.unfolded.tree
        worth = trees own.places (bits_at own.places own.function.vars bits) (assigned_to own.function.vars bits) is.unfolded.tree own.function.lit.0 (λ v p at. assigned_alike own.places own.function.vars bits distinct in_order.within v p at) is.unfolded.builds

        variables_below : All (λ (y : Variable ℕ). y.input < count) (variables_of own.places own.function.vars)
        variables_below = All-from_each (λ (y : Variable ℕ). y.input < count) (variables_of own.places own.function.vars) (λ y h.
            let v = Contains-map_from (variable_of own.places) own.function.vars y h in
            subst (λ (z : Variable ℕ). z.input < count) v.2 (All-contains (λ u. (variable_of own.places u).input < count) own.function.vars v.0 inputs v.1))

        past : (i : ℕ) → count ≤ i → bits_at own.places own.function.vars bits i 0 ≡ false
        past i h = below_count same_shift (variables_of own.places own.function.vars) bits count i 0 variables_below h

        there : (i : ℕ) → get_or row i false ≡ bits_at own.places own.function.vars bits i 0
        there i = ap (λ (r : List Bool). get_or r i false) of ∙ row_value-is 0 (bits_at own.places own.function.vars bits) count i 0 (omega arith) (past i)

        none_reads : (i : ℕ) → ((p : ℕ) → IsInputNumber (circuit_of n) order p i → ⊥) → (y : Variable ℕ) → Contains is.unfolded.variables y → y.input ≡ i → ⊥
        none_reads i none y h e = let q = leaf_input (circuit_of n) order 0 y unfolds (leaf_of y h) in none q.0 (subst (IsInputNumber (circuit_of n) order q.0) e q.1)
