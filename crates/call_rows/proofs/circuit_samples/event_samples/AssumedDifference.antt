-- The same difference under the assumption that a is 1: the sequence meets it throughout.
use Rattle.std.proofs.Common.{◌≡◌, ℕ, zero, suc, ◌<◌, Bool, true, false, List, [], ◌∷◌, refl, sym, ◌∙◌, ap, subst, arith, inl, inr}
use Rattle.std.specs.Prelude.{◌⊎◌, ◌==◌}
use Rattle.std.specs.List.{Contains}
use Rattle.std.proofs.lemmas.List.Elements.{All-nil, All-cons, All-head}
use Rattle.circuit_theory.specs.Cover.{cover_value}
use Rattle.circuit_theory.specs.Circuit.{Gate, Holds}
use Rattle.circuit_theory.specs.Tree.{Tree, Leaf, Branch, Nil, tree_value}
use Rattle.circuit_theory.specs.Query.{Variable, HasLeaf, HasLeafIn, Distinguishes, assigned, same_shift, bits_of, IsSame}
use Rattle.circuit_theory.specs.Joined.{Left, Right}
use Rattle.circuit_theory.specs.Fits.{MakesDiffer}
use Rattle.circuit_theory.specs.EventFrames.{AreNodeVariables, frame_of}
use Rattle.circuit_theory.proofs.Inputs.{test_same}
use Rattle.circuit_theory.proofs.Lists.{Contains-head, only}
use Rattle.circuit_laws.proofs.event_laws.EventWindows.{event_witness_makes_differ_in_nets}
use Rattle.assume_laws.specs.Assume.{IsAssumption, RowMeets, PlaceUnfolds, PlaceUnfoldsAll, HasVariableAtNode}
use Rattle.assume_laws.specs.Sequences.{RowsMeet, IsMeetingDifference, IsMeetingRow, IsEventPairQueryUnder, IsPairTreeUnder, IsSideTree, IsEventDifferenceUnder, HaveDifferentEventsUnder, assumption_query}
use Rattle.assume_laws.proofs.Meeting.{leaf_input, leaf_at}
use Rattle.assume_laws.proofs.Filled.{event_difference_is_witness_under}
use Rattle.call_rows.proofs.circuit_samples.NetTest.{net_test-sound}
use Rattle.call_rows.proofs.circuit_samples.Each.{each_latch}
use Rattle.call_rows.specs.circuit_samples.event_samples.Samples.{same_cover}
use Rattle.call_rows.specs.circuit_samples.event_samples.Always.{always_loads, nothing, no_class, always_side, always_variables, one_always, never, assumed_query, meeting_row, nothing_cover, ok_tree}
use Rattle.call_rows.proofs.circuit_samples.event_samples.AlwaysPair.{the_variable, left_tree, right_tree, left_unfolds, right_unfolds, left_value, right_value, care_of, pair_leaf, left_has_leaf, variables_of, left_depth, right_depth, left_always, right_always, always_sides}

pub one_is_assumption : IsAssumption one_always 2
one_is_assumption = record {
  net = net_test-sound one_always.circuit 2 refl;
  gates = λ name u next latch. each_latch (λ m v to. ⊥) one_always.circuit.equations tt name u next latch;
  each = refl;
  output = omega arith;
}

same_bit : (b : Bool) → cover_value same_cover (b ∷ []) ≡ b
unfolding cover_value
same_bit true = refl
same_bit false = refl

-- a sent meets it where a is 1
row_meets : (sent : ℕ → Bool) → sent 0 ≡ true → RowMeets one_always sent
row_meets sent e v values inputs = All-head (Holds v) (Gate 1 (0 ∷ []) same_cover) [] values ∙ (same_bit (v 0) ∙ (inputs 0 0 (inl (refl, refl)) ∙ e))

-- and only there
meets_row : (sent : ℕ → Bool) → RowMeets one_always sent → sent 0 ≡ true
meets_row sent meets = meets (λ p. sent 0) (All-cons (Holds (λ p. sent 0)) (Gate 1 (0 ∷ []) same_cover) [] (sym (same_bit (sent 0))) (All-nil (Holds (λ p. sent 0)))) number
  where
    number : (p i : ℕ) → ((0 ≡ p) × (0 ≡ i)) ⊎ ⊥ → sent 0 ≡ sent i
    number p i (inl h) = ap sent h.1
    number p i (inr h) = absurd h

-- a node with a variable of the pair is that of the one variable
node_is : (node : List ℕ) → HasVariableAtNode always_side (Left 3) (Right 1) node → 0 ∷ [] ≡ node
node_is node h = ap (λ (x : Variable (List ℕ)). x.at) (pair_leaf h.0 h.2 (record { input = h.1; at = node }) h.3)

asks : IsEventPairQueryUnder one_always always_side (Left 3) (Right 1) assumed_query
asks = record {
  left_tree = left_tree;
  right_tree = right_tree;
  left_unfolds = left_unfolds;
  right_unfolds = right_unfolds;
  left = left_value;
  right = right_value;
  care = λ bits. (
    (λ e. ((care_of (Left 3) bits, care_of (Right 1) bits), λ node h. row_meets (λ i. bits i node) (sym (ap (bits 0) (node_is node h)) ∙ e))),
    λ care. meets_row (λ i. bits i (0 ∷ [])) (care.1 (0 ∷ []) (left_tree, 0, inl (inl left_unfolds), left_has_leaf)),
  );
}

are_sides : AreNodeVariables (IsSideTree always_side (Left 3) (Right 1)) always_variables
are_sides = variables_of (IsSideTree always_side (Left 3) (Right 1)) (inl left_unfolds) (λ tree side x h. pair_leaf tree (inl side) x h)

under_leaf : (tree : Tree (List ℕ)) → IsPairTreeUnder one_always always_side (Left 3) (Right 1) tree → (x : Variable (List ℕ)) → HasLeaf x tree → the_variable ≡ x
under_leaf tree (inl pair) x h = pair_leaf tree pair x h
under_leaf tree (inr k) x h =
    let n = leaf_input one_always.circuit one_always.order k.0 x k.2 h in
    let at = leaf_at one_always.circuit one_always.order k.0 x k.2 h in
    pair (zero_number n.0 x.input n.1) (node_is k.0 k.1 ∙ sym at)
  where
    zero_number : (q i : ℕ) → ((0 ≡ q) × (0 ≡ i)) ⊎ ⊥ → 0 ≡ i
    zero_number q i (inl r) = r.1
    zero_number q i (inr r) = absurd r

    pair : 0 ≡ x.input → 0 ∷ [] ≡ x.at → the_variable ≡ x
    pair e f = λ i. record { input = e i; at = f i }

pub assumed_variables : AreNodeVariables (IsPairTreeUnder one_always always_side (Left 3) (Right 1)) always_variables
assumed_variables = variables_of (IsPairTreeUnder one_always always_side (Left 3) (Right 1)) (inl (inl (inl left_unfolds))) under_leaf

apart : true ≡ false → ⊥
apart e = cc

distinguishes : Distinguishes assumed_query (frame_of always_variables (true ∷ []))
distinguishes = record { care = refl; differs = apart }

least : (m : ℕ) → m < 1 → Distinguishes assumed_query (frame_of always_variables (bits_of m 1)) → ⊥
least zero h d = apart (sym d.care)
least (suc m) h d = omega arith

pub assumed_difference : IsEventDifferenceUnder one_always always_side (Left 3) (Right 1) assumed_query always_variables always_variables (true ∷ [])
assumed_difference = record {
  asks = asks;
  are_sides = are_sides;
  are_variables = assumed_variables;
  each = refl;
  distinguishes = distinguishes;
  least = λ le. (1, refl, record { in_range = omega arith; distinguishes = distinguishes; least = least });
}

other : (i : ℕ) → (0 ≡ i → ⊥) → meeting_row i ≡ false
other i h = not_zero (i == 0) refl
  where
    not_zero : (t : Bool) → (i == 0) ≡ t → (i == 0) ≡ false
    not_zero true e = absurd (h (sym (test_same i 0 e)))
    not_zero false e = e

pub meeting_is : IsMeetingRow one_always 1 meeting_row
meeting_is = record { meets = row_meets meeting_row refl; others = λ i none. other i (λ e. none 0 (inl (refl, e))); above = λ i h. other i (λ e. omega arith) }

pub assumed_shown : HaveDifferentEventsUnder one_always always_side (Left 3) (Right 1)
assumed_shown = record {
  left_tree = left_tree;
  right_tree = right_tree;
  left_unfolds = left_unfolds;
  right_unfolds = right_unfolds;
  bits = frame_of always_variables (true ∷ []);
  care = (asks.care (frame_of always_variables (true ∷ []))).0 refl;
  differ = λ e. apart (left_value (frame_of always_variables (true ∷ [])) ∙ (e ∙ sym (right_value (frame_of always_variables (true ∷ [])))));
}

pub assumed_differ : MakesDiffer always_loads nothing (0 ∷ []) (0 ∷ []) 3 1 ((true ∷ []) ∷ (true ∷ []) ∷ []) 1 true false × RowsMeet one_always ((true ∷ []) ∷ (true ∷ []) ∷ []) 1
assumed_differ =
    let w = event_difference_is_witness_under one_always always_side 3 1 1 1 0 assumed_query always_variables always_variables (true ∷ []) meeting_row assumed_difference
    (All-cons (λ (x : Variable (List ℕ)). x.input < 1) the_variable [] (omega arith) (All-nil (λ (x : Variable (List ℕ)). x.input < 1))) meeting_is left_depth right_depth left_always right_always in
    let s = always_sides in
    (event_witness_makes_differ_in_nets always_loads nothing 4 2 (0 ∷ []) (0 ∷ []) no_class s.left_net s.right_net s.numbered s.left_long s.right_long s.classes s.depths 3 1 1 ((true ∷ []) ∷ (true ∷ []) ∷ []) 1 true false w.0, w.1)

-- the assumption's own query, at shift 0
ok_unfolds : PlaceUnfolds one_always.circuit one_always.order 0 one_always.output ok_tree
ok_unfolds = PlaceUnfolds.gate {fanins = 0 ∷ []} (0, omega arith, refl) (PlaceUnfoldsAll.more (PlaceUnfolds.input (inl (refl, refl))) PlaceUnfoldsAll.none)

abbrev ok_variable : Variable ℕ
ok_variable = record { input = 0; at = 0 }

ok_leaf : (x : Variable ℕ) → HasLeaf x ok_tree → ok_variable ≡ x
ok_leaf x (HasLeaf.inside (HasLeafIn.first h)) = at 0 0 h
  where
    at : (i k : ℕ) → HasLeaf x (Leaf i k) → record { input = i; at = k } ≡ x
    at i k HasLeaf.leaf = refl
ok_leaf x (HasLeaf.inside (HasLeafIn.later h)) = absurd (elim h [ ])

ok_distinguishes : Distinguishes (assumption_query ok_tree) (assigned same_shift (ok_variable ∷ []) (true ∷ []))
unfolding tree_value
ok_distinguishes = record { care = refl; differs = λ e. apart (sym (same_bit true) ∙ e) }

pub meeting_difference : IsMeetingDifference one_always 0 ok_tree (ok_variable ∷ []) (true ∷ [])
unfolding tree_value
meeting_difference = record {
  unfolds = ok_unfolds;
  are_variables = record {
    in_order = λ i j d l h. absurd (omega arith);
    exactly = λ x. (
      (λ h. subst Found (only ok_variable x h) (ok_tree, Contains-head ok_tree [], HasLeaf.inside (HasLeafIn.first HasLeaf.leaf))),
      λ f. subst (Contains (ok_variable ∷ [])) (ok_leaf x (subst (HasLeaf x) (sym (only ok_tree f.0 f.1)) f.2)) (Contains-head ok_variable []),
    );
  };
  each = refl;
  distinguishes = ok_distinguishes;
  least = λ le. (1, refl, record { in_range = omega arith; distinguishes = ok_distinguishes; least = low });
}
  where
    Found : Variable ℕ → Type 0
    Found x = (tree : Tree ℕ) × Contains (ok_tree ∷ []) tree × HasLeaf x tree

    low : (m : ℕ) → m < 1 → Distinguishes (assumption_query ok_tree) (assigned same_shift (ok_variable ∷ []) (bits_of m 1)) → ⊥
    low zero h d = d.differs (same_bit false)
    low (suc m) h d = omega arith

-- and one that no sent meets
pub never_unfolds : PlaceUnfolds {L = ℕ} never.circuit never.order 0 never.output (Branch nothing_cover Nil)
never_unfolds = PlaceUnfolds.gate {fanins = []} (0, omega arith, refl) PlaceUnfoldsAll.none

pub never_met : IsSame (assumption_query (Branch nothing_cover Nil))
unfolding tree_value cover_value
never_met x e = refl

pub never_is_assumption : IsAssumption never 2
never_is_assumption = record {
  net = net_test-sound never.circuit 2 refl;
  gates = λ name u next latch. each_latch (λ m v to. ⊥) never.circuit.equations tt name u next latch;
  each = refl;
  output = omega arith;
}
