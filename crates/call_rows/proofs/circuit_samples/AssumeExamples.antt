-- One latch and two in a sent agree where the input is always 1, and two differ from the constant 0 by a sequence that is 1 throughout:
-- the premises of the laws are met.
use Rattle.std.proofs.Common.{◌≡◌, ℕ, zero, suc, ◌<◌, Bool, true, false, List, [], ◌∷◌, refl, sym, ◌∙◌, ap, subst, arith, inl, inr}
use Rattle.std.specs.Prelude.{◌⊎◌, ◌==◌, codes}
use Rattle.std.specs.List.{Contains, AllPairs}
use Rattle.std.proofs.lemmas.List.Elements.{All-nil, All-cons, All-head}
use Rattle.circuit_theory.specs.declared.Mode.TheVariants.{Plain}
use Rattle.circuit_theory.specs.Cover.{cover_value}
use Rattle.circuit_theory.specs.Circuit.{Circuit, Gate, Named, Holds}
use Rattle.circuit_theory.specs.Tree.{Tree, Trees, Leaf, Branch, Nil, AreNumbered, IsInputNumber, StandsBeside, tree_value, Unfolds, UnfoldsAll}
use Rattle.circuit_theory.specs.Query.{Query, Variable, HasLeaf, HasLeafIn, ShiftBefore, Distinguishes, assigned, same_shift, bits_of}
use Rattle.circuit_theory.specs.Agree.{IsPair}
use Rattle.circuit_theory.specs.Fits.{MakesDiffer}
use Rattle.circuit_theory.proofs.Inputs.{test_same}
use Rattle.circuit_theory.proofs.Lists.{Contains-head, Contains-tail, Contains-cases, only}
use Rattle.call_rows.specs.circuit_samples.Circuits.{one, two, buffer, only_a, zero_cover, nil_a, ones, only_first}
use Rattle.call_rows.proofs.circuit_samples.Samples.{one_net, two_net}
use Rattle.call_rows.proofs.circuit_samples.PlainExamples.{one_unfolds, two_unfolds}
use Rattle.call_rows.proofs.circuit_samples.NetTest.{numbers_distinct-sound}
use Rattle.circuit_theory.proofs.Numbers.{one_place}
use Rattle.assume_laws.specs.Assume.{RowMeets, ReadsInputs, HasVariableAt, HaveEqualFunctionsUnder, AgreeUnder}
use Rattle.assume_laws.specs.Sequences.{RowsMeet, IsTreeUnder, IsWitnessUnder}
use Rattle.assume_laws.proofs.Meeting.{leaf_input, leaf_at}
use Rattle.assume_laws.proofs.PlainLaws.{equal_functions_agree_under}
use Rattle.assume_laws.proofs.Filled.{witness_makes_differ_under}

same_bit : (b : Bool) → cover_value buffer (b ∷ []) ≡ b
unfolding cover_value
same_bit true = refl
same_bit false = refl

-- a sent meets it where a is 1
pub row_meets : (sent : ℕ → Bool) → sent 0 ≡ true → RowMeets only_a sent
row_meets sent e v values inputs =
    All-head (Holds v) (Gate 1 (0 ∷ []) buffer) [] values ∙ (same_bit (v 0) ∙ (inputs 0 0 (inl (refl, refl)) ∙ e))

-- and only there
pub meets_row : (sent : ℕ → Bool) → RowMeets only_a sent → sent 0 ≡ true
meets_row sent meets = meets (λ p. sent 0) (All-cons (Holds (λ p. sent 0)) (Gate 1 (0 ∷ []) buffer) [] (sym (same_bit (sent 0))) (All-nil (Holds (λ p. sent 0)))) number
  where
    number : (p i : ℕ) → ((0 ≡ p) × (0 ≡ i)) ⊎ ⊥ → sent 0 ≡ sent i
    number p i (inl h) = ap sent h.1
    number p i (inr h) = absurd h

pub reads_a : (c : Circuit ℕ) → c.inputs ≡ record { name = codes "a"; place = 0 } ∷ [] → ReadsInputs only_a c (0 ∷ [])
reads_a c e = record {
  each = refl;
  found = λ p i h. (codes "a", 0, named p i h, subst (λ (ns : List (Named ℕ)). Contains ns (record { name = codes "a"; place = 0 })) (sym e) (Contains-head _ []), at_zero p i h);
  numbered = λ name p i q mine other h. at_place name p i q other h;
}
  where
    named : (p i : ℕ) → ((0 ≡ p) × (0 ≡ i)) ⊎ ⊥ → Contains only_a.circuit.inputs (record { name = codes "a"; place = p })
    named p i (inl h) = subst (λ x. Contains only_a.circuit.inputs (record { name = codes "a"; place = x })) h.0 (Contains-head _ [])
    named p i (inr h) = absurd h

    at_zero : (p i : ℕ) → ((0 ≡ p) × (0 ≡ i)) ⊎ ⊥ → IsInputNumber c (0 ∷ []) 0 i
    at_zero p i (inl h) = subst (λ (ns : List (Named ℕ)). StandsBeside ns (0 ∷ []) 0 i) (sym e) (inl (refl, h.1))
    at_zero p i (inr h) = absurd h

    at_place : (name : List ℕ) (p i q : ℕ) → Contains c.inputs (record { name = name; place = q }) → ((0 ≡ p) × (0 ≡ i)) ⊎ ⊥ → IsInputNumber c (0 ∷ []) q i
    at_place name p i q other h =
        let same = only (record { name = codes "a"; place = 0 }) (record { name = name; place = q }) (subst (λ (ns : List (Named ℕ)). Contains ns (record { name = name; place = q })) e other) in
        subst (λ x. IsInputNumber c (0 ∷ []) x i) (ap (λ (n : Named ℕ). n.place) same) (at_zero p i h)

pub numbered_a : AreNumbered one two (0 ∷ []) (0 ∷ [])
numbered_a = record {
  left_once = λ p q i h k. one_place one.inputs (0 ∷ []) (numbers_distinct-sound (0 ∷ []) refl) p q i h k;
  right_once = λ p q i h k. one_place two.inputs (0 ∷ []) (numbers_distinct-sound (0 ∷ []) refl) p q i h k;
  shared = λ p q i h k. shared p q i h k;
}
  where
    Both : ℕ → ℕ → Type 0
    Both p q = (name : List ℕ) × Contains one.inputs (record { name = name; place = p }) × Contains two.inputs (record { name = name; place = q })

    shared : (p q i : ℕ) → ((0 ≡ p) × (0 ≡ i)) ⊎ ⊥ → ((0 ≡ q) × (0 ≡ i)) ⊎ ⊥ → Both p q
    shared p q i (inl h) (inl k) = subst (λ x. Both x q) h.0 (subst (Both 0) k.0 (codes "a", Contains-head _ [], Contains-head _ []))
    shared p q i (inl h) (inr k) = absurd k
    shared p q i (inr h) k = absurd h

pub under_equal : (p q : ℕ) → IsPair [] one two p q → HaveEqualFunctionsUnder only_a one two (0 ∷ []) (0 ∷ []) p q
unfolding tree_value
under_equal p q (IsPair.outputs {name = name} l r) =
    let left : 1 ≡ p = ap (λ (n : Named ℕ). n.place) (only (record { name = codes "y"; place = 1 }) (record { name = name; place = p }) l) in
    let right : 2 ≡ q = ap (λ (n : Named ℕ). n.place) (only (record { name = codes "y"; place = 2 }) (record { name = name; place = q }) r) in
    subst (λ x. HaveEqualFunctionsUnder only_a one two (0 ∷ []) (0 ∷ []) x q) left (subst (λ x. HaveEqualFunctionsUnder only_a one two (0 ∷ []) (0 ∷ []) 1 x) right (record {
      left_tree = Leaf 0 1;
      right_tree = Leaf 0 2;
      left_unfolds = (1, one_unfolds);
      right_unfolds = (2, two_unfolds);
      same = λ x care.
          meets_row (λ i. x i 1) (care.1 1 (Leaf 0 1, 0, Contains-head (Leaf 0 1) (Leaf 0 2 ∷ []), HasLeaf.leaf))
          ∙ sym (meets_row (λ i. x i 2) (care.1 2 (Leaf 0 2, 0, Contains-tail (Leaf 0 1) (Leaf 0 2) (Leaf 0 2 ∷ []) (Contains-head (Leaf 0 2) []), HasLeaf.leaf)));
    }))
under_equal p q (IsPair.nexts h l r) = absurd (omega (arith, h.1))

-- one latch and two agree wherever both are settled, in the runs in which a is always 1
pub one_and_two_agree : AgreeUnder Plain only_a one two
one_and_two_agree = equal_functions_agree_under only_a one two 2 3 (0 ∷ []) (0 ∷ []) one_net two_net numbered_a (reads_a one refl) under_equal

abbrev v : Variable ℕ
v = record { input = 0; at = 2 }

-- two latches differ from the constant 0 in cycle 2, by a sequence that meets the assumption throughout
pub under_witness : IsWitnessUnder only_a two nil_a (0 ∷ []) (0 ∷ []) 2 1 1 only_first ones 2 true false
unfolding tree_value cover_value
under_witness = record {
  left_depth = 2;
  right_depth = 0;
  left_tree = Leaf 0 2;
  right_tree = Branch zero_cover Nil;
  left_unfolds = two_unfolds;
  right_unfolds = Unfolds.gate {fanins = []} (0, omega arith, refl) UnfoldsAll.none;
  last_is = refl;
  sides = v ∷ [];
  variables = v ∷ [];
  bits = true ∷ [];
  difference = record {
    are_sides = record { in_order = single; exactly = λ x. (λ h. subst Left (only v x h) (Leaf 0 2, Contains-head (Leaf 0 2) (Branch zero_cover Nil ∷ []), HasLeaf.leaf), λ h. side x h.0 h.1 h.2) };
    are_variables = record { in_order = single; exactly = λ x. (λ h. subst Under (only v x h) (Leaf 0 2, inl (Contains-head (Leaf 0 2) (Branch zero_cover Nil ∷ [])), HasLeaf.leaf), λ h. under x h.0 h.1 h.2) };
    each = refl;
    query = query;
    asks = record { left_is = λ x. refl; right_is = λ x. refl; care_is = λ x. (λ e at h. row_meets (λ i. x i at) (ap (x 0) (sym (place at h)) ∙ e), λ all. meets_row (λ i. x i 2) (all 2 (Leaf 0 2, 0, Contains-head (Leaf 0 2) (Branch zero_cover Nil ∷ []), HasLeaf.leaf))) };
    distinguishes = distinguishes;
    least = λ le. (1, refl, record { in_range = omega arith; distinguishes = distinguishes; least = least });
  };
  inputs = All-cons (λ (x : Variable ℕ). x.input < 1) v [] (omega arith) (All-nil (λ (x : Variable ℕ). x.input < 1));
  meeting_is = record { meets = row_meets (λ i. i == 0) refl; others = λ i none. other i (λ e. none 0 (inl (refl, e))); above = λ i h. other i (λ e. omega arith) };
  rows_are = refl;
  left_value = refl;
  right_value = refl;
}
  where
    left_tree : Tree ℕ
    left_tree = Leaf 0 2

    right_tree : Tree ℕ
    right_tree = Branch zero_cover Nil

    variable : Tree ℕ → Variable ℕ
    variable (Leaf input at) = record { input = input; at = at }
    variable other = v

    leaf_is : (x : Variable ℕ) (tree : Tree ℕ) → HasLeaf x tree → tree ≡ Leaf 0 2 → v ≡ x
    leaf_is x tree HasLeaf.leaf e = ap variable (sym e)
    leaf_is x tree (HasLeaf.inside h) e = cc

    no_leaf : (x : Variable ℕ) (tree : Tree ℕ) → HasLeaf x tree → tree ≡ Branch zero_cover Nil → ⊥
    no_leaf x tree HasLeaf.leaf e = cc
    no_leaf x tree (HasLeaf.inside h) e = none h (ap subtrees e)
      where
        subtrees : Tree ℕ → Trees ℕ
        subtrees (Branch cover trees) = trees
        subtrees other = Nil

        none : {trees : Trees ℕ} → HasLeafIn x trees → trees ≡ Nil → ⊥
        none (HasLeafIn.first k) q = cc
        none (HasLeafIn.later k) q = cc

    Left : Variable ℕ → Type 0
    Left x = (tree : Tree ℕ) × Contains (Leaf 0 2 ∷ Branch zero_cover Nil ∷ []) tree × HasLeaf x tree

    Under : Variable ℕ → Type 0
    Under x = (tree : Tree ℕ) × IsTreeUnder only_a (Leaf 0 2) (Branch zero_cover Nil) tree × HasLeaf x tree

    found : (x : Variable ℕ) → v ≡ x → Contains (v ∷ []) x
    found x e = subst (Contains (v ∷ [])) e (Contains-head v [])

    side_is : (x : Variable ℕ) (tree : Tree ℕ) → Contains (Leaf 0 2 ∷ Branch zero_cover Nil ∷ []) tree → HasLeaf x tree → v ≡ x
    side_is x tree h stands = go (Contains-cases (Leaf 0 2) tree (Branch zero_cover Nil ∷ []) h)
      where
        go : (Leaf 0 2 ≡ tree) ⊎ Contains (Branch zero_cover Nil ∷ []) tree → v ≡ x
        go (inl e) = leaf_is x tree stands (sym e)
        go (inr k) = absurd (no_leaf x tree stands (sym (only (Branch zero_cover Nil) tree k)))

    side : (x : Variable ℕ) (tree : Tree ℕ) → Contains (Leaf 0 2 ∷ Branch zero_cover Nil ∷ []) tree → HasLeaf x tree → Contains (v ∷ []) x
    side x tree h stands = found x (side_is x tree h stands)

    -- a place with a variable of both sides is that of the one variable
    place : (at : ℕ) → HasVariableAt (Leaf 0 2) (Branch zero_cover Nil) at → 2 ≡ at
    place at (tree, i, one, h) = ap (λ (x : Variable ℕ). x.at) (side_is (record { input = i; at = at }) tree one h)

    under : (x : Variable ℕ) (tree : Tree ℕ) → IsTreeUnder only_a (Leaf 0 2) (Branch zero_cover Nil) tree → HasLeaf x tree → Contains (v ∷ []) x
    under x tree (inl one) stands = side x tree one stands
    under x tree (inr k) stands =
        let n = leaf_input only_a.circuit only_a.order k.0 x k.2 stands in
        let at = leaf_at only_a.circuit only_a.order k.0 x k.2 stands in
        let two_is = place k.0 k.1 in
        found x (pair x (zero_number n.0 x.input n.1) (two_is ∙ sym at))
      where
        zero_number : (q i : ℕ) → ((0 ≡ q) × (0 ≡ i)) ⊎ ⊥ → 0 ≡ i
        zero_number q i (inl h) = h.1
        zero_number q i (inr h) = absurd h

        pair : (x : Variable ℕ) → 0 ≡ x.input → 2 ≡ x.at → v ≡ x
        pair x e f = λ i. record { input = e i; at = f i }

    single : AllPairs ShiftBefore (v ∷ [])
    single = λ i j d l k. absurd (omega arith)

    apart : true ≡ false → ⊥
    apart e = cc

    other : (i : ℕ) → (0 ≡ i → ⊥) → (i == 0) ≡ false
    other i h = not_zero (i == 0) refl
      where
        not_zero : (t : Bool) → (i == 0) ≡ t → (i == 0) ≡ false
        not_zero true e = absurd (h (sym (test_same i 0 e)))
        not_zero false e = e

    query : Query ℕ
    query = record { left = λ x. x 0 2; right = λ x. false; care = λ x. x 0 2 }

    distinguishes : Distinguishes query (assigned same_shift (v ∷ []) (true ∷ []))
    distinguishes = record { care = refl; differs = apart }

    least : (m : ℕ) → m < 1 → Distinguishes query (assigned same_shift (v ∷ []) (bits_of m 1)) → ⊥
    least zero h d = apart (sym d.care)
    least (suc m) h d = omega arith

pub two_differs : MakesDiffer two nil_a (0 ∷ []) (0 ∷ []) 2 1 ones 2 true false × RowsMeet only_a ones 2
two_differs = witness_makes_differ_under only_a two nil_a (0 ∷ []) (0 ∷ []) 2 1 1 only_first ones 2 true false under_witness
