-- The query of two functions in a cycle with the care of the cycle, and what its answers say of their trees.
use Rattle.std.proofs.Common.{◌≡◌, ℕ, ◌+◌, ◌*◌, ◌^◌, ◌<◌, Bool, true, List, [], ◌∷◌, map, length, get_or, slice_get, Some, refl, sym, ◌∙◌, ap, subst, arith, inl, inr}
use Rattle.std.specs.Prelude.{◌⊎◌, ◌↔◌}
use Rattle.std.specs.List.{Contains}
use Rattle.std.proofs.lemmas.List.Elements.{All-contains}
use Rattle.std.proofs.lemmas.Option.{slice_get-get_or, get_or_from_slice_get}
use Rattle.circuit_theory.specs.Tree.{Tree, tree_value}
use Rattle.circuit_theory.specs.Query as query
use Rattle.circuit_theory.specs.Query.{Variable, AreLeaves, HasLeaf, same_shift, assigned, bits_of}
use Rattle.circuit_theory.proofs.Lists.{Contains-cases, Contains-map, Contains-map_from, length-map, only}
use Rattle.circuit_laws.specs.reset_laws.Reset.{CycleBefore}
use Rattle.flat_net.specs.View.{NetView, circuit_of}
use Rattle.aig.specs.declared.node.Lit.{Lit}
use Rattle.aig.specs.declared.node.Node.{Node}
use Rattle.aig.specs.declared.node.Node.TheVariants.{Input}
use Rattle.aig.specs.Builds.{Builds, TakesBits}
use Rattle.aig.specs.Cone.{IsReached}
use Rattle.aig.specs.Values.{value}
use Rattle.aig.proofs.Growth.{Builds-one}
use Rattle.cbf_unfold.specs.declared.unfold_places.signal_function.Unfolded.{Unfolded}
use Rattle.cbf_unfold.specs.shift_variables.Sequences.{bits_at}
use Rattle.cbf_unfold.specs.shift_variables.Variables.{variable_of, variables_of}
use Rattle.cbf_unfold.specs.shift_variables.cycle_variables.Cycles.{AreInCycles, GoesFirst}
use Rattle.cbf_unfold.proofs.shift_variables.Assignments.{assigned_alike}
use Rattle.aig.proofs.Supports.{reached_one}
use Rattle.cbf_unfold.proofs.unfold_places.Lists.{pairs_map}
use Rattle.pair_decide.specs.declared.query.Query.{Query}
use Rattle.pair_decide.specs.Queries.{IsQuery, IsLeast, Distinguishes, assigned_to, roots_of}
use Rattle.pair_decide.specs.Answers.{IsDifference}
use Rattle.obligations.proofs.Fits as asking
use Rattle.assume_laws.specs.Assume.{Assumption}
use Rattle.reset_form.proofs.reset_asked.CycleQueries.{AsksCycle, left_tree, right_tree, query_in_order, merge_in_order, numbers_apart, are_variables}
use Rattle.reset_form.proofs.reset_asked.CycleQueries as cycles
use Rattle.reset_form.proofs.reset_unfold.CoveredCones.{covers_cone}
use Rattle.cycle_under.specs.Asked.{IsCareQuery}
use Rattle.cycle_under.specs.Cares.{IsCareFirst}
use Rattle.cycle_under.specs.First.{MeetsFirst, IsWantedFirst, reset_pair_under, IsDifferenceOf}

-- the query without the care
abbrev pub plain : Unfolded → Unfolded → List ℕ → Query
plain l r sides = record { left = l.lit; right = r.lit; care = record { 0 = 1 }; vars = sides }

-- q asks so of two signals on one graph and table
pub record AsksCared (c : Assumption) (a b : NetView) (left right : List ℕ) (left_base right_base : ℕ) (g : List Node) (places : List (ℕ × ℕ)) (s t cycle : ℕ) (l r care : Unfolded) (q : Query) : Type 0 where
  pub asks : IsCareQuery places l r care q
  pub sides : AsksCycle a b left right left_base right_base g places s t cycle l r (plain l r asks.sides)
  pub cared : IsCareFirst c g places (cycle + 1) care

module _ {c : Assumption} {a b : NetView} {left right : List ℕ} {left_base right_base : ℕ} {g : List Node} {places : List (ℕ × ℕ)} {s t cycle : ℕ} {l r care : Unfolded} {q : Query}
    (x : AsksCared c a b left right left_base right_base g places s t cycle l r care q) where
  abbrev pub left_side : Tree ℕ
  left_side = left_tree x.sides

  abbrev pub right_side : Tree ℕ
  right_side = right_tree x.sides

  left_lit : q.left.0 ≡ l.lit.0
  left_lit = ap (λ (y : Lit). y.0) x.asks.left_is

  right_lit : q.right.0 ≡ r.lit.0
  right_lit = ap (λ (y : Lit). y.0) x.asks.right_is

  care_lit : q.care.0 ≡ care.lit.0
  care_lit = ap (λ (y : Lit). y.0) x.asks.care_is

  pub in_order : AreInCycles places q.vars
  in_order = merge_in_order places x.asks.sides care.vars q.vars (query_in_order x.sides) x.cared.in_order x.asks.variables_are

  of_sides : (v : ℕ) → Contains l.vars v ⊎ Contains r.vars v → Contains q.vars v
  of_sides v h = (x.asks.variables_are.exactly v).1 (inl ((x.asks.sides_are.exactly v).1 h))

  covers : (n v : ℕ) → IsReached g (roots_of q) n → slice_get g n ≡ Some (Input v) → Contains q.vars v
  covers n v reached at = go (reached_one g (roots_of q) n reached)
    where
      moved : (y z : ℕ) → y ≡ z → IsReached g (y ∷ []) n → IsReached g (z ∷ []) n
      moved y z e h = subst (λ (w : ℕ). IsReached g (w ∷ []) n) e h

      last : (y : ℕ) → (q.right.0 ≡ y) ⊎ Contains (q.care.0 ∷ []) y → IsReached g (y ∷ []) n → Contains q.vars v
      last y (inl e) h = of_sides v (inr ((covers_cone b right right_base g places t cycle r.lit.0 r.vars x.sides.graph x.sides.distinct x.sides.right_is).1 n v (moved y r.lit.0 (sym e ∙ right_lit) h) at))
      last y (inr m) h = (x.asks.variables_are.exactly v).1 (inr (x.cared.reads n v (moved y care.lit.0 (sym (only q.care.0 y m) ∙ care_lit) h) at))

      first : (y : ℕ) → (q.left.0 ≡ y) ⊎ Contains (q.right.0 ∷ q.care.0 ∷ []) y → IsReached g (y ∷ []) n → Contains q.vars v
      first y (inl e) h = of_sides v (inl ((covers_cone a left left_base g places s cycle l.lit.0 l.vars x.sides.graph x.sides.distinct x.sides.left_is).1 n v (moved y l.lit.0 (sym e ∙ left_lit) h) at))
      first y (inr m) h = last y (Contains-cases q.right.0 y (q.care.0 ∷ []) m) h

      go : (y : ℕ) × Contains (roots_of q) y × IsReached g (y ∷ []) n → Contains q.vars v
      go (y, m, h) = first y (Contains-cases q.left.0 y (q.right.0 ∷ q.care.0 ∷ []) m) h

  pub is_query : IsQuery g q
  is_query = record {
    left = omega (arith, left_lit, x.sides.left_is.within);
    right = omega (arith, right_lit, x.sides.right_is.within);
    care = omega (arith, care_lit, x.cared.within);
    distinct = numbers_apart places q.vars x.asks.variables_are.ordered;
    covers = covers;
  }

  -- the variables are those of both trees and of the assumption in the cycles up to this one
  pub variables_are : AreLeaves CycleBefore (IsWantedFirst c (cycle + 1) (Contains (left_side ∷ right_side ∷ []))) (variables_of places q.vars)
  variables_are = record {
    in_order = pairs_map (variable_of places) (GoesFirst places) CycleBefore q.vars (λ u v hu hv before. before) x.asks.variables_are.ordered;
    exactly = λ y. (
      λ h. let v = Contains-map_from (variable_of places) q.vars y h in to y v.0 v.2 ((x.asks.variables_are.exactly v.0).0 v.1),
      λ h. from y h.0 h.1 h.2,
    );
  }
    where
      to : (y : Variable ℕ) (v : ℕ) → variable_of places v ≡ y → Contains x.asks.sides v ⊎ Contains care.vars v → (tree : Tree ℕ) × IsWantedFirst c (cycle + 1) (Contains (left_side ∷ right_side ∷ [])) tree × HasLeaf y tree
      to y v e (inl k) =
          let f = ((are_variables x.sides).exactly y).0 (subst (Contains (variables_of places x.asks.sides)) e (Contains-map (variable_of places) x.asks.sides v k)) in
          (f.0, inl f.1, f.2)
      to y v e (inr k) =
          let f = (x.cared.exactly y).0 (subst (Contains (variables_of places care.vars)) e (Contains-map (variable_of places) care.vars v k)) in
          (f.1, inr (f.0, f.2, f.3), f.4)

      among : (y : Variable ℕ) (vs : List ℕ) → ((v : ℕ) → Contains vs v → Contains q.vars v) → Contains (variables_of places vs) y → Contains (variables_of places q.vars) y
      among y vs wider there =
          let v = Contains-map_from (variable_of places) vs y there in
          subst (Contains (variables_of places q.vars)) v.2 (Contains-map (variable_of places) q.vars v.0 (wider v.0 v.1))

      from : (y : Variable ℕ) (tree : Tree ℕ) → IsWantedFirst c (cycle + 1) (Contains (left_side ∷ right_side ∷ [])) tree → HasLeaf y tree → Contains (variables_of places q.vars) y
      from y tree (inl m) h = among y x.asks.sides (λ v k. (x.asks.variables_are.exactly v).1 (inl k)) (((are_variables x.sides).exactly y).1 (tree, m, h))
      from y tree (inr m) h = among y care.vars (λ v k. (x.asks.variables_are.exactly v).1 (inr k)) ((x.cared.exactly y).1 (m.0, tree, m.1, m.2, h))

  left_value : (bits : ℕ → ℕ → Bool) (y : ℕ → Bool) → TakesBits places bits y → value g y q.left.0 ≡ tree_value bits left_side
  left_value bits y takes = ap (value g y) left_lit ∙ cycles.left_value x.sides bits y takes

  right_value : (bits : ℕ → ℕ → Bool) (y : ℕ → Bool) → TakesBits places bits y → value g y q.right.0 ≡ tree_value bits right_side
  right_value bits y takes = ap (value g y) right_lit ∙ cycles.right_value x.sides bits y takes

  care_value : (bits : ℕ → ℕ → Bool) (y : ℕ → Bool) → TakesBits places bits y → (value g y q.care.0 ≡ true) ↔ (Unit {0} × MeetsFirst c (cycle + 1) bits)
  care_value bits y takes = (
    λ e. (tt, (x.cared.care_is bits y takes).0 (sym (ap (value g y) care_lit) ∙ e)),
    λ h. ap (value g y) care_lit ∙ (x.cared.care_is bits y takes).1 h.1,
  )

  takes_bits : (bits : List Bool) → TakesBits places (bits_at places q.vars bits) (assigned_to q.vars bits)
  takes_bits bits v p at = assigned_alike places q.vars bits x.sides.distinct in_order.within v p at

  -- the query asks about the pair under the assumption
  pub asks_under : asking.AsksPair (reset_pair_under c (circuit_of a) (circuit_of b) left right left_base right_base s t cycle) g places (variable_of places) (bits_at places q.vars) q
  asks_under = record {
    left_tree = left_side;
    right_tree = right_side;
    left_unfolds = x.sides.left_is.unfolds;
    right_unfolds = x.sides.right_is.unfolds;
    are_variables = variables_are;
    distinct = x.sides.distinct;
    named = λ v here. slice_get-get_or places v (0, 0) (All-contains (λ u. u < length places) q.vars v in_order.within here);
    one_literal = λ e. left_lit
        ∙ (Builds-one g x.sides.graph places x.sides.distinct left_side l.lit.0 r.lit.0 x.sides.left_is.builds (subst (λ (z : Tree ℕ). Builds g places z r.lit.0) (sym e) x.sides.right_is.builds) ∙ sym right_lit);
    left_value = left_value;
    right_value = right_value;
    care_value = care_value;
    takes = takes_bits;
  }

  pub left_at_bits : (bits : List Bool) → value g (assigned_to q.vars bits) q.left.0 ≡ tree_value (bits_at places q.vars bits) left_side
  left_at_bits bits = left_value (bits_at places q.vars bits) (assigned_to q.vars bits) (takes_bits bits)

  pub right_at_bits : (bits : List Bool) → value g (assigned_to q.vars bits) q.right.0 ≡ tree_value (bits_at places q.vars bits) right_side
  right_at_bits bits = right_value (bits_at places q.vars bits) (assigned_to q.vars bits) (takes_bits bits)

  -- the bits of the graph's variables
  taken : (ℕ → ℕ → Bool) → ℕ → Bool
  taken bits v = bits (get_or places v (0, 0)).0 (get_or places v (0, 0)).1

  takes : (bits : ℕ → ℕ → Bool) → TakesBits places bits (taken bits)
  unfolding taken
  takes bits v p at = ap (λ (z : ℕ × ℕ). bits z.0 z.1) (get_or_from_slice_get places v p (0, 0) at)

  abbrev both : query.Query ℕ
  both = record { left = λ bits. tree_value bits left_side; right = λ bits. tree_value bits right_side; care = λ bits. value g (taken bits) q.care.0 }

  trees_differ : (bits : List Bool) → Distinguishes g q (assigned_to q.vars bits) → query.Distinguishes both (bits_at places q.vars bits)
  trees_differ bits d = record {
    care = (care_value (bits_at places q.vars bits) (taken (bits_at places q.vars bits)) (takes (bits_at places q.vars bits))).1 ((care_value (bits_at places q.vars bits) (assigned_to q.vars bits) (takes_bits bits)).0 d.care);
    differs = λ e. d.differ (left_at_bits bits ∙ (e ∙ sym (right_at_bits bits)));
  }

  lits_differ : (bits : List Bool) → query.Distinguishes both (bits_at places q.vars bits) → Distinguishes g q (assigned_to q.vars bits)
  lits_differ bits d = record {
    care = (care_value (bits_at places q.vars bits) (assigned_to q.vars bits) (takes_bits bits)).1 ((care_value (bits_at places q.vars bits) (taken (bits_at places q.vars bits)) (takes (bits_at places q.vars bits))).0 d.care);
    differ = λ e. d.differs (sym (left_at_bits bits) ∙ (e ∙ right_at_bits bits));
  }

  pub long : length (variables_of places q.vars) ≡ length q.vars
  long = length-map (variable_of places) q.vars

  least_is : (number : ℕ) → IsLeast g q number → query.IsLeast same_shift both (variables_of places q.vars) number
  least_is number h = record {
    in_range = subst (λ n. number < 2 ^ n) (sym long) h.in_range;
    distinguishes = subst (λ n. query.Distinguishes both (bits_at places q.vars (bits_of number n))) (sym long) (trees_differ (bits_of number (length q.vars)) h.distinguishes);
    least = λ m below d. h.least m below (lits_differ (bits_of m (length q.vars)) (subst (λ n. query.Distinguishes both (bits_at places q.vars (bits_of m n))) long d));
  }

  -- its bits are an assignment with care under which both trees differ
  pub difference : (bits : List Bool) → IsDifference g q bits → IsDifferenceOf (reset_pair_under c (circuit_of a) (circuit_of b) left right left_base right_base s t cycle) left_side right_side (variables_of places q.vars) bits
  difference bits d = record {
    are_variables = variables_are;
    each = d.each ∙ sym long;
    query = both;
    left_is = λ y. refl;
    right_is = λ y. refl;
    care_is = λ y. care_value y (taken y) (takes y);
    distinguishes = trees_differ bits d.distinguishes;
    least = λ few. let h = d.least (omega (arith, few, long)) in (h.0, h.1 ∙ ap (bits_of h.0) (sym long), least_is h.0 h.2);
  }
