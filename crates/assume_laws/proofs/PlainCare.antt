-- Functions that are equal under a care that holds along the runs mean agreement, in the plain mode: without and with exposed latches.
use Rattle.std.proofs.Common.{◌≡◌, ℕ, ◌+◌, ◌-◌, ◌<◌, Bool, true, false, cond, List, refl, sym, ◌∙◌, ap, subst, arith, inl, inr, Option, Some, None}
use Rattle.std.specs.Prelude.{◌⊎◌}
use Rattle.std.specs.List.{Contains}
use Rattle.circuit_theory.specs.Circuit.{Circuit, Latch, Named, IsLatch, IsSingleDriven}
use Rattle.circuit_theory.specs.Run.{Marked, NoneEnabled}
use Rattle.circuit_theory.specs.Tree.{Tree, Unfolds, IsInputNumber, StandsBeside, AreNumbered, tree_value}
use Rattle.circuit_theory.specs.Agree.{AreAlike, cut}
use Rattle.circuit_laws.proofs.Marks.{settled_depth}
use Rattle.circuit_laws.proofs.Values.{tree_is_run}
use Rattle.circuit_laws.proofs.Onward.{cut_input}
use Rattle.circuit_laws.proofs.Parted.{filled, own_filled, left_tree_filled, right_tree_filled}
use Rattle.circuit_laws.proofs.reset_laws.ResetAgreement.{HoldsAlong, input_row, row_left, row_right}

-- both sides of a pair unfold, to functions that agree where each row is cared for
pub record EqualPlainUnder {P Q : Type 0} (care : (ℕ → Bool) → Type 0) (a : Circuit P) (b : Circuit Q) (oa ob : List ℕ) (p : P) (q : Q) : Type 0 where
  pub left_depth : ℕ
  pub right_depth : ℕ
  pub left_tree : Tree ℕ
  pub right_tree : Tree ℕ
  pub left_unfolds : Unfolds a oa p 0 left_depth left_tree
  pub right_unfolds : Unfolds b ob q 0 right_depth right_tree
  pub same : (x : ℕ → ℕ → Bool) → ((k : ℕ) → care (λ i. x i k)) → tree_value x left_tree ≡ tree_value x right_tree

-- Only the assignment that the two runs fill is looked at, and each of its rows is one of the run.
pub same_at_under : {P Q : Type 0} (care : (ℕ → Bool) → Type 0) (a : Circuit P) (b : Circuit Q) (oa ob : List ℕ) → AreNumbered a b oa ob → IsSingleDriven a → IsSingleDriven b → (n : ℕ) (left : ℕ → P → Bool) (right : ℕ → Q → Bool) →
    AreAlike a b n left right → HoldsAlong care a oa n left → (p : P) (q : Q) → EqualPlainUnder care a b oa ob p q → (t : ℕ) → t < n → Marked a NoneEnabled left t p → Marked b NoneEnabled right t q → left t p ≡ right t q
same_at_under {P} {Q} care a b oa ob numbered sa sb n left right alike along p q equal t in_run lm rm =
    let ld = settled_depth a left sa equal.left_unfolds t lm in
    let rd = settled_depth b right sb equal.right_unfolds t rm in
    let l : tree_value x equal.left_tree ≡ left (t - 0) p = tree_is_run a oa n left alike.left_run t in_run x (λ p i k h le. row_left a b oa ob numbered left right n alike.equal_inputs (t - k) p i h) equal.left_unfolds (omega (arith, ld)) in
    let r : tree_value x equal.right_tree ≡ right (t - 0) q = tree_is_run b ob n right alike.right_run t in_run x (λ q i k h le. row_right a b oa ob numbered left right n alike.equal_inputs (t - k) (omega arith) q i h) equal.right_unfolds (omega (arith, rd)) in
    let now : t - 0 ≡ t = omega arith in
    let held : (k : ℕ) → care (λ i. x i k) = λ k. along (t - k) (omega arith) (λ i. x i k) (λ p i h. row_left a b oa ob numbered left right n alike.equal_inputs (t - k) p i h) in
    ap (λ s. left s p) (sym now) ∙ (sym l ∙ (equal.same x held ∙ (r ∙ ap (λ s. right s q) now)))
  where
    x : ℕ → ℕ → Bool
    x i k = input_row a b oa ob numbered left right n alike.equal_inputs (t - k) i

-- With exposed latches, for places that are settled in the circuits themselves: as without a care, and each row that is filled has the
-- circuit's own inputs, exposed latches whichever value they take.
module _ {P Q : Type 0} (names : List (List ℕ)) (a : Circuit P) (b : Circuit Q) (oa ob : List ℕ)
    (numbered : AreNumbered (cut names a) (cut names b) oa ob) (sa : IsSingleDriven a) (sb : IsSingleDriven b)
    (left_clear : (name : List ℕ) (p : P) → Contains a.inputs (record { name = name; place = p }) → Contains names name → ⊥)
    (right_clear : (name : List ℕ) (q : Q) → Contains b.inputs (record { name = name; place = q }) → Contains names name → ⊥)
    (one_name : (name name' : List ℕ) (p : P) → Contains (cut names a).inputs (record { name = name; place = p }) → Contains (cut names a).inputs (record { name = name'; place = p }) → name ≡ name')
    -- which exposed latches are never settled in A; the others are never settled in B
    (never_left : List ℕ → Bool)
    (left_never : (name : List ℕ) (u next : P) → IsLatch a name u next → never_left name ≡ true → (run : ℕ → P → Bool) (t : ℕ) → Marked a NoneEnabled run t u → ⊥)
    (right_never : (name : List ℕ) (v next : Q) → Contains names name → IsLatch b name v next → never_left name ≡ false → (run : ℕ → Q → Bool) (t : ℕ) → Marked b NoneEnabled run t v → ⊥)
    (only_names : (name : List ℕ) → never_left name ≡ true → Contains names name)
    (care : (ℕ → Bool) → Type 0) (n : ℕ) (left : ℕ → P → Bool) (right : ℕ → Q → Bool) (alike : AreAlike a b n left right)
    -- the care looks at the circuit's own inputs, and holds along the run
    (along : (t : ℕ) → t < n → (row : ℕ → Bool) → ((name : List ℕ) (p : P) (i : ℕ) → Contains a.inputs (record { name = name; place = p }) → IsInputNumber (cut names a) oa p i → row i ≡ left t p) → care row) where
  pub parted_same_at : (p : P) (q : Q) → EqualPlainUnder care (cut names a) (cut names b) oa ob p q → (t : ℕ) → t < n → Marked a NoneEnabled left t p → Marked b NoneEnabled right t q → left t p ≡ right t q
  parted_same_at p q e t in_run lm rm =
      let l = left_tree_filled names a b oa ob numbered sa sb left_clear right_clear one_name never_left left_never right_never only_names n left right alike t in_run p e.left_unfolds lm in
      let r = right_tree_filled names a b oa ob numbered sa sb left_clear right_clear one_name never_left left_never right_never only_names n left right alike t in_run q e.right_unfolds rm in
      let x = filled names a b oa ob numbered sa sb left_clear right_clear one_name never_left left_never right_never only_names n left right alike t in_run in
      sym l ∙ (e.same x (λ k. along (t - k) (omega arith) (λ i. x i k) (λ name p i own h. own_filled names a b oa ob numbered sa sb left_clear right_clear one_name never_left left_never right_never only_names n left right alike t in_run name p i k own h)) ∙ r)
