-- The query of a pair, and what its answers say of the event functions.
use Rattle.std.proofs.Common.{◌≡◌, ◌∙◌, ℕ, ◌^◌, ◌<◌, ◌≤◌, Bool, true, false, List, [], ◌∷◌, length, map, get_or, refl, sym, ap, subst, arith, inl, inr}
use Rattle.std.specs.Prelude.{◌⊎◌, ◌↔◌, ◌&&◌, Contains}
use Rattle.std.specs.List.{All, AllPairs}
use Rattle.std.proofs.lemmas.List.{get_or-map}
use Rattle.std.proofs.lemmas.List.Elements.{All-contains}
use Rattle.circuit_theory.specs.Joined.{Either}
use Rattle.circuit_theory.specs.Names.{same_name}
use Rattle.circuit_theory.specs.Query as frame_query
use Rattle.circuit_theory.specs.Query.{Variable, HasLeaf, bits_of}
use Rattle.circuit_theory.specs.Run.{IsEnabled}
use Rattle.circuit_theory.specs.Tree.{Tree, tree_value}
use Rattle.circuit_theory.proofs.Lists.{All-from_each, Contains-map, Contains-map_from, length-map}
use Rattle.circuit_theory.specs.EventFits.{HaveEqualEvents}
use Rattle.circuit_theory.specs.EventFrames.{AreNodeVariables, IsPairTree, IsUnshownFrame, IsEventDifference, frame_of}
use Rattle.circuit_theory.specs.EventQueries.{IsEventPairQuery}
use Rattle.circuit_theory.specs.Frame.{EventSide, ConeLatches, HasCare, NodeBefore}
use Rattle.class_search.specs.aig.Lit.{Lit}
use Rattle.class_search.specs.aig.Values.{value}
use Rattle.class_search.proofs.aig.CoverMeaning.{value-and}
use Rattle.class_search.proofs.aig.Growth.{IsAndOf-grows, Grows-length}
use Rattle.event_nodes.specs.Nodes.{EventGraphView, IsEventGraph}
use Rattle.class_search.specs.event_variables.Variables.{variable_of, variables_of, GoesBefore, AreInOrder, IsMergeOf}
use Rattle.class_search.specs.event_variables.Laws.{IsSignalTree}
use Rattle.event_classes.specs.declared.event_functions.signals.SignalFunction.{SignalFunction}
use Rattle.edbf_unfold.specs.Laws.{TakesFrame}
use Rattle.class_search.specs.declared.compare.Enable.{Enable}
use Rattle.class_search.specs.Comparing.{IsReadyEnable}
use Rattle.class_search.proofs.Queries.{enables_query}
use Rattle.edbf_unfold.proofs.class_queries.Frames.{assignment_of, takes_frame}
use Rattle.event_form.specs.event_agreement.event_pairs.Functions.{IsEventFunction}
use Rattle.event_form.proofs.event_agreement.event_pairs.Growing.{function_later, ordered_later, value_of_tree}
use Rattle.class_search.specs.pair_decide.Query.{Query}
use Rattle.class_search.specs.pair_decide.Answers.{IsDifference}
use Rattle.class_search.specs.pair_decide.Queries.{IsQuery, IsSame, IsLeast, Distinguishes, assigned_to}
use Rattle.event_form.specs.event_agreement.Queries.{AsksEventPair}
use Rattle.event_form.specs.event_agreement.Laws.{PairsAreQueries, PairQueriesGrow, SameIsEqualEvents, DifferenceIsFrame, DifferenceIsLeast, IsFrameDifference}
use Rattle.event_form.proofs.event_agreement.FrameBits.{bits_take_frame}

-- the variables of numbers in order are in order
in_order_of : (w : EventGraphView) (vars : List ℕ) → AllPairs (GoesBefore w) vars → AllPairs NodeBefore (variables_of w vars)
in_order_of w vars ordered i j d l m = go vars refl
  where
    go : (vs : List ℕ) → vs ≡ vars → NodeBefore (get_or (map (variable_of w) vars) i d) (get_or (map (variable_of w) vars) j d)
    go [] e = absurd (let z = ap (λ (x : List ℕ). length (map (variable_of w) x)) e in omega (arith, z, m))
    go (v ∷ vs) e =
        let many : length (map (variable_of w) vars) ≡ length vars = length-map (variable_of w) vars in
        let j_in : j < length vars = omega (arith, m, many) in
        let at_i = get_or-map (variable_of w) vars i v d (omega (arith, l, j_in)) in
        let at_j = get_or-map (variable_of w) vars j v d j_in in
        subst (λ (x : Variable (List ℕ)). NodeBefore x (get_or (map (variable_of w) vars) j d)) (sym at_i) (subst (NodeBefore (variable_of w (get_or vars i v))) (sym at_j) (ordered i j v l j_in))

both_true : (b c : Bool) → b && c ≡ true → (b ≡ true) × (c ≡ true)
both_true true c h = (refl, h)
both_true false c h = absurd (no h)
  where
    no : false ≡ true → ⊥
    no q = cc

-- a function as a value with its care
abbrev cared : SignalFunction → Enable
cared r = record { value = r.value; care = r.care; vars = r.vars }

ready : (s : EventSide (Either ℕ ℕ)) (w : EventGraphView) (p : Either ℕ ℕ) (r : SignalFunction) → IsEventFunction s w p r → IsReadyEnable w (cared r)
ready s w p r k = record { value_within = k.value_within; care_within = k.care_within; in_order = k.in_order; covers = k.covers }

merged_within : (w : EventGraphView) (left right merged : List ℕ) → AreInOrder w left → AreInOrder w right → IsMergeOf w left right merged → All (λ v. v < length w.places) merged
merged_within w left right merged l r m = All-from_each (λ v. v < length w.places) merged (λ v h. from v ((m.exactly v).0 h))
  where
    from : (v : ℕ) → Contains left v ⊎ Contains right v → v < length w.places
    from v (inl h) = All-contains (λ (k : ℕ). k < length w.places) left v l.within h
    from v (inr h) = All-contains (λ (k : ℕ). k < length w.places) right v r.within h

module _ (s : EventSide (Either ℕ ℕ)) (w : EventGraphView) (p q : Either ℕ ℕ) (query : Query) (is : IsEventGraph w) (k : AsksEventPair s w p q query) where
  abbrev left_tree : Tree (List ℕ)
  left_tree = k.left_is.tree

  abbrev right_tree : Tree (List ℕ)
  right_tree = k.right_is.tree

  abbrev variables : List (Variable (List ℕ))
  variables = variables_of w query.vars

  pub is_query : IsQuery w.graph query
  is_query = enables_query w is query (cared k.left_function) (cared k.right_function) (ready s w p k.left_function k.left_is) (ready s w q k.right_function k.right_is) k.left k.right k.care k.care_within k.vars

  pub within : All (λ v. v < length w.places) query.vars
  within = merged_within w k.left_function.vars k.right_function.vars query.vars k.left_is.in_order k.right_is.in_order k.vars

  -- a variable of the query is one of a tree of the pair
  variable_tree : (y : Variable (List ℕ)) (v : ℕ) → variable_of w v ≡ y → Contains k.left_function.vars v ⊎ Contains k.right_function.vars v → (tree : Tree (List ℕ)) × IsPairTree s p q tree × HasLeaf y tree
  variable_tree y v e (inl h) = let t = (k.left_is.are_variables.exactly y).0 (subst (Contains (variables_of w k.left_function.vars)) e (Contains-map (variable_of w) k.left_function.vars v h)) in (t.0, wrap t.0 t.1, t.2)
    where
      wrap : (tree : Tree (List ℕ)) → IsSignalTree s p tree → IsPairTree s p q tree
      wrap tree (inl own) = inl (inl own)
      wrap tree (inr care) = inr (inl care)
  variable_tree y v e (inr h) = let t = (k.right_is.are_variables.exactly y).0 (subst (Contains (variables_of w k.right_function.vars)) e (Contains-map (variable_of w) k.right_function.vars v h)) in (t.0, wrap t.0 t.1, t.2)
    where
      wrap : (tree : Tree (List ℕ)) → IsSignalTree s q tree → IsPairTree s p q tree
      wrap tree (inl own) = inl (inr own)
      wrap tree (inr care) = inr (inr care)

  -- a leaf of one of the pair's trees is a variable of the query
  left_leaf : (y : Variable (List ℕ)) (tree : Tree (List ℕ)) → IsSignalTree s p tree → HasLeaf y tree → Contains variables y
  left_leaf y tree wanted is_leaf =
      let v = Contains-map_from (variable_of w) k.left_function.vars y ((k.left_is.are_variables.exactly y).1 (tree, wanted, is_leaf)) in
      subst (Contains variables) v.2 (Contains-map (variable_of w) query.vars v.0 ((k.vars.exactly v.0).1 (inl v.1)))

  right_leaf : (y : Variable (List ℕ)) (tree : Tree (List ℕ)) → IsSignalTree s q tree → HasLeaf y tree → Contains variables y
  right_leaf y tree wanted is_leaf =
      let v = Contains-map_from (variable_of w) k.right_function.vars y ((k.right_is.are_variables.exactly y).1 (tree, wanted, is_leaf)) in
      subst (Contains variables) v.2 (Contains-map (variable_of w) query.vars v.0 ((k.vars.exactly v.0).1 (inr v.1)))

  tree_leaf : (y : Variable (List ℕ)) (tree : Tree (List ℕ)) → IsPairTree s p q tree → HasLeaf y tree → Contains variables y
  tree_leaf y tree (inl (inl own)) is_leaf = left_leaf y tree (inl own) is_leaf
  tree_leaf y tree (inl (inr own)) is_leaf = right_leaf y tree (inl own) is_leaf
  tree_leaf y tree (inr (inl care)) is_leaf = left_leaf y tree (inr care) is_leaf
  tree_leaf y tree (inr (inr care)) is_leaf = right_leaf y tree (inr care) is_leaf

  pub are_variables : AreNodeVariables (IsPairTree s p q) variables
  are_variables = record {
    in_order = in_order_of w query.vars k.vars.ordered;
    exactly = λ y. (
      λ h. (let v = Contains-map_from (variable_of w) query.vars y h in variable_tree y v.0 v.2 ((k.vars.exactly v.0).0 v.1)),
      λ h. tree_leaf y h.0 h.1 h.2,
    );
  }

  pub left_value : (bits : ℕ → List ℕ → Bool) (a : ℕ → Bool) → TakesFrame w bits a → value w.graph a query.left.0 ≡ tree_value bits left_tree
  left_value bits a fits = ap (λ (l : Lit). value w.graph a l.0) k.left ∙ value_of_tree s w p k.left_function is k.left_is bits a fits

  pub right_value : (bits : ℕ → List ℕ → Bool) (a : ℕ → Bool) → TakesFrame w bits a → value w.graph a query.right.0 ≡ tree_value bits right_tree
  right_value bits a fits = ap (λ (l : Lit). value w.graph a l.0) k.right ∙ value_of_tree s w q k.right_function is k.right_is bits a fits

  abbrev Cared : (ℕ → List ℕ → Bool) → Type 0
  Cared bits = HasCare s (IsEnabled s.circuit) (ConeLatches s.circuit p) bits × HasCare s (IsEnabled s.circuit) (ConeLatches s.circuit q) bits

  pub care_value : (bits : ℕ → List ℕ → Bool) (a : ℕ → Bool) → TakesFrame w bits a → (value w.graph a query.care.0 ≡ true) ↔ Cared bits
  care_value bits a fits = (
    λ h. (let both = both_true (value w.graph a k.left_function.care.0) (value w.graph a k.right_function.care.0) (sym and_is ∙ h) in ((k.left_is.care_is bits a fits).0 both.0, (k.right_is.care_is bits a fits).0 both.1)),
    λ h. and_is ∙ (λ i. (k.left_is.care_is bits a fits).1 h.0 i && (k.right_is.care_is bits a fits).1 h.1 i),
  )
    where
      and_is : value w.graph a query.care.0 ≡ (value w.graph a k.left_function.care.0 && value w.graph a k.right_function.care.0)
      and_is = value-and w.graph is.is_graph a k.left_function.care.0 k.right_function.care.0 query.care.0 k.care

  pub same_events : IsSame w.graph query → HaveEqualEvents s p q
  same_events same = record {
    left_tree = left_tree;
    right_tree = right_tree;
    left_unfolds = k.left_is.unfolds;
    right_unfolds = k.right_is.unfolds;
    same = λ bits care.
        sym (left_value bits (assignment_of w bits) (takes_frame w bits))
        ∙ (same (assignment_of w bits) ((care_value bits (assignment_of w bits) (takes_frame w bits)).1 care) ∙ right_value bits (assignment_of w bits) (takes_frame w bits));
  }

  -- the frame of bits of the variables
  abbrev frame : List Bool → ℕ → List ℕ → Bool
  frame bits = frame_of variables bits

  pub takes : (bits : List Bool) → TakesFrame w (frame bits) (assigned_to query.vars bits)
  takes bits = bits_take_frame w is query.vars bits within

  variables_long : length variables ≡ length query.vars
  variables_long = length-map (variable_of w) query.vars

  pub shown_frame : (bits : List Bool) → IsDifference w.graph query bits → IsUnshownFrame s p q variables bits (value w.graph (assigned_to query.vars bits) query.left.0) (value w.graph (assigned_to query.vars bits) query.right.0)
  shown_frame bits d = record {
    left_tree = left_tree;
    right_tree = right_tree;
    left_unfolds = k.left_is.unfolds;
    right_unfolds = k.right_is.unfolds;
    are_variables = are_variables;
    each = d.each ∙ sym variables_long;
    left_care = ((care_value (frame bits) (assigned_to query.vars bits) (takes bits)).0 d.distinguishes.care).0;
    right_care = ((care_value (frame bits) (assigned_to query.vars bits) (takes bits)).0 d.distinguishes.care).1;
    left_value = left_value (frame bits) (assigned_to query.vars bits) (takes bits);
    right_value = right_value (frame bits) (assigned_to query.vars bits) (takes bits);
    differ = d.distinguishes.differ;
  }

  -- the query as one of frames
  pub asked : frame_query.Query (List ℕ)
  asked = record { left = λ bits. tree_value bits left_tree; right = λ bits. tree_value bits right_tree; care = λ bits. value w.graph (assignment_of w bits) query.care.0 }

  pub asks_pair : IsEventPairQuery s p q asked
  unfolding asked
  asks_pair = record {
    left_tree = left_tree;
    right_tree = right_tree;
    left_unfolds = k.left_is.unfolds;
    right_unfolds = k.right_is.unfolds;
    left = λ bits. refl;
    right = λ bits. refl;
    care = λ bits. care_value bits (assignment_of w bits) (takes_frame w bits);
  }

  frames_differ : (bits : List Bool) → Distinguishes w.graph query (assigned_to query.vars bits) → frame_query.Distinguishes asked (frame bits)
  unfolding asked
  frames_differ bits d = record {
    care = (care_value (frame bits) (assignment_of w (frame bits)) (takes_frame w (frame bits))).1 ((care_value (frame bits) (assigned_to query.vars bits) (takes bits)).0 d.care);
    differs = λ e. d.differ (left_value (frame bits) (assigned_to query.vars bits) (takes bits) ∙ (e ∙ sym (right_value (frame bits) (assigned_to query.vars bits) (takes bits))));
  }

  lits_differ : (bits : List Bool) → frame_query.Distinguishes asked (frame bits) → Distinguishes w.graph query (assigned_to query.vars bits)
  unfolding asked
  lits_differ bits d = record {
    care = (care_value (frame bits) (assigned_to query.vars bits) (takes bits)).1 ((care_value (frame bits) (assignment_of w (frame bits)) (takes_frame w (frame bits))).0 d.care);
    differ = λ e. d.differs (sym (left_value (frame bits) (assigned_to query.vars bits) (takes bits)) ∙ (e ∙ right_value (frame bits) (assigned_to query.vars bits) (takes bits)));
  }

  least_is : (number : ℕ) → IsLeast w.graph query number → frame_query.IsLeast same_name asked variables number
  least_is number h = record {
    in_range = subst (λ n. number < 2 ^ n) (sym variables_long) h.in_range;
    distinguishes = subst (λ n. frame_query.Distinguishes asked (frame (bits_of number n))) (sym variables_long) (frames_differ (bits_of number (length query.vars)) h.distinguishes);
    least = λ m below d. h.least m below (lits_differ (bits_of m (length query.vars)) (subst (λ n. frame_query.Distinguishes asked (frame (bits_of m n))) variables_long d));
  }

  pub event_difference : (bits : List Bool) → IsDifference w.graph query bits → IsEventDifference s p q asked variables bits
  event_difference bits d = record {
    asks = asks_pair;
    are_variables = are_variables;
    each = d.each ∙ sym variables_long;
    distinguishes = frames_differ bits d.distinguishes;
    least = λ few. (let n = d.least (subst (λ i. i ≤ 16) variables_long few) in (n.0, n.1 ∙ ap (bits_of n.0) (sym variables_long), least_is n.0 n.2));
  }

  pub frame_difference : (bits : List Bool) → IsDifference w.graph query bits → IsFrameDifference s w p q query bits
  unfolding asked
  frame_difference bits d = record {
    asked = asked;
    differs = event_difference bits d;
    left = sym (left_value (frame bits) (assigned_to query.vars bits) (takes bits));
    right = sym (right_value (frame bits) (assigned_to query.vars bits) (takes bits));
  }

pub queries_of_pairs : PairsAreQueries
queries_of_pairs s w p q query is k = is_query s w p q query is k

pub queries_later : PairQueriesGrow
queries_later s w x p q query is then grows k = record {
  left_function = k.left_function;
  right_function = k.right_function;
  left_is = function_later w x is then grows s p k.left_function k.left_is;
  right_is = function_later w x is then grows s q k.right_function k.right_is;
  left = k.left;
  right = k.right;
  care = IsAndOf-grows w.graph x.graph grows.graph k.left_function.care.0 k.right_function.care.0 query.care.0 k.care;
  care_within = omega (arith, k.care_within, Grows-length w.graph x.graph grows.graph);
  vars = record { ordered = ordered_later w x is then grows query.vars (merged_within w k.left_function.vars k.right_function.vars query.vars k.left_is.in_order k.right_is.in_order k.vars) k.vars.ordered; exactly = k.vars.exactly };
}

pub equal_events : SameIsEqualEvents
equal_events s w p q query is k same = same_events s w p q query is k same

pub frames_shown : DifferenceIsFrame
frames_shown s w p q query bits is k d = shown_frame s w p q query is k bits d

pub differences_least : DifferenceIsLeast
differences_least s w p q query bits is k d = frame_difference s w p q query is k bits d
