-- Equal functions agree: without and with exposed latches, in the plain mode.
use Rattle.std.proofs.Common.{◌≡◌, ℕ, ◌-◌, ◌<◌, Bool, true, false, cond, List, [], ◌∷◌, refl, sym, ◌∙◌, ap, subst, arith, inl, inr, Option, Some, None}
use Rattle.std.specs.Prelude.{◌==◌}
use Rattle.circuit_theory.specs.Circuit.{Circuit, Named, IsSingleDriven}
use Rattle.circuit_theory.specs.Run.{Marked, NoneEnabled}
use Rattle.circuit_theory.specs.Asked.{HaveEqualFunctions}
use Rattle.circuit_theory.specs.Tree.{IsInputNumber, StandsBeside, AreNumbered, tree_value}
use Rattle.circuit_theory.specs.declared.Mode.TheVariants.{Plain}
use Rattle.circuit_theory.specs.Agree.{Agree, AreAlike, IsPair}
use Rattle.circuit_laws.proofs.Marks.{settled_depth}
use Rattle.circuit_laws.proofs.Values.{tree_is_run}
use Rattle.circuit_theory.proofs.Inputs.{test_same, test_refl}

-- the value of the input with this number
abbrev pub value_of_number : {P : Type 0} → (P → Bool) → List (Named P) → List ℕ → ℕ → Option Bool
value_of_number v [] order i = None
value_of_number v (n ∷ inputs) [] i = None
value_of_number v (n ∷ inputs) (j ∷ order) i = cond (j == i) (Some (v n.place)) (value_of_number v inputs order i)

abbrev pub first_value : Option Bool → Option Bool → Bool
first_value (Some x) y = x
first_value None (Some y) = y
first_value None None = false

-- where a number is an input's, the value found is that of an input of this number
pub value_found : {P : Type 0} (v : P → Bool) (inputs : List (Named P)) (order : List ℕ) (p : P) (i : ℕ) → StandsBeside inputs order p i →
    (p' : P) × StandsBeside inputs order p' i × (value_of_number v inputs order i ≡ Some (v p'))
value_found v [] order p i h = absurd h
value_found v (n ∷ inputs) [] p i h = absurd h
value_found {P} v (n ∷ inputs) (j ∷ order) p i h = go (λ k. value_found v inputs order p i k) (j == i) refl h
  where
    Found : List (Named P) → List ℕ → Type 0
    Found ns js = (p' : P) × StandsBeside ns js p' i × (value_of_number v ns js i ≡ Some (v p'))

    go : (StandsBeside inputs order p i → Found inputs order) → (b : Bool) → (j == i) ≡ b → StandsBeside (n ∷ inputs) (j ∷ order) p i → Found (n ∷ inputs) (j ∷ order)
    go later true e k = (n.place, inl (refl, test_same j i e), ap (λ b. cond b (Some (v n.place)) (value_of_number v inputs order i)) e)
    go later false e (inl q) = absurd (let z : (j == i) ≡ true = subst (λ x. (j == x) ≡ true) q.1 (test_refl j) in cc)
    go later false e (inr k) = let f = later k in (f.0, inr f.1, ap (λ b. cond b (Some (v n.place)) (value_of_number v inputs order i)) e ∙ f.2)

-- what is found is the value of an input of this number
pub value_from : {P : Type 0} (v : P → Bool) (inputs : List (Named P)) (order : List ℕ) (i : ℕ) (x : Bool) → value_of_number v inputs order i ≡ Some x →
    (p' : P) × StandsBeside inputs order p' i × (x ≡ v p')
value_from v [] order i x h = cc
value_from v (n ∷ inputs) [] i x h = cc
value_from {P} v (n ∷ inputs) (j ∷ order) i x h = go (λ k. value_from v inputs order i x k) (j == i) refl
  where
    Found : List (Named P) → List ℕ → Type 0
    Found ns js = (p' : P) × StandsBeside ns js p' i × (x ≡ v p')

    go : (value_of_number v inputs order i ≡ Some x → Found inputs order) → (b : Bool) → (j == i) ≡ b → Found (n ∷ inputs) (j ∷ order)
    go later true e =
        let z : Some (v n.place) ≡ Some x = sym (ap (λ b. cond b (Some (v n.place)) (value_of_number v inputs order i)) e) ∙ h in
        (n.place, inl (refl, test_same j i e), cc)
    go later false e =
        let f = later (sym (ap (λ b. cond b (Some (v n.place)) (value_of_number v inputs order i)) e) ∙ h) in
        (f.0, inr f.1, f.2)

-- one assignment for both runs: that of A's inputs, and B's for the numbers that A doesn't have
abbrev pub shared_bits : {P Q : Type 0} → Circuit P → Circuit Q → List ℕ → List ℕ → (ℕ → P → Bool) → (ℕ → Q → Bool) → ℕ → ℕ → ℕ → Bool
shared_bits a b oa ob left right t i k = first_value (value_of_number (left (t - k)) a.inputs oa i) (value_of_number (right (t - k)) b.inputs ob i)

module _ {P Q : Type 0} (a : Circuit P) (b : Circuit Q) (oa ob : List ℕ) (numbered : AreNumbered a b oa ob) (left : ℕ → P → Bool) (right : ℕ → Q → Bool) (n : ℕ) (alike : AreAlike a b n left right) where
  left_bits : (t : ℕ) (p : P) (i k : ℕ) → IsInputNumber a oa p i → shared_bits a b oa ob left right t i k ≡ left (t - k) p
  left_bits t p i k h =
      let f = value_found (left (t - k)) a.inputs oa p i h in
      ap (λ o. first_value o (value_of_number (right (t - k)) b.inputs ob i)) f.2 ∙ ap (left (t - k)) (numbered.left_once f.0 p i f.1 h)

  right_bits : (t : ℕ) → t < n → (q : Q) (i k : ℕ) → IsInputNumber b ob q i → shared_bits a b oa ob left right t i k ≡ right (t - k) q
  right_bits t in_run q i k h = go (value_of_number (left (t - k)) a.inputs oa i) refl
    where
      go : (o : Option Bool) → value_of_number (left (t - k)) a.inputs oa i ≡ o → shared_bits a b oa ob left right t i k ≡ right (t - k) q
      go None e =
          let f = value_found (right (t - k)) b.inputs ob q i h in
          ap (λ o. first_value o (value_of_number (right (t - k)) b.inputs ob i)) e ∙ (ap (λ o. first_value None o) f.2 ∙ ap (right (t - k)) (numbered.right_once f.0 q i f.1 h))
      go (Some x) e =
          let f = value_from (left (t - k)) a.inputs oa i x e in
          let name = numbered.shared f.0 q i f.1 h in
          let same : left (t - k) f.0 ≡ right (t - k) q = alike.equal_inputs name.0 f.0 q name.1 name.2 (t - k) (omega arith) in
          ap (λ o. first_value o (value_of_number (right (t - k)) b.inputs ob i)) e ∙ (f.2 ∙ same)

  -- where both functions are one, settled values are one
  pub same_at : (sa : IsSingleDriven a) (sb : IsSingleDriven b) (p : P) (q : Q) → HaveEqualFunctions a b oa ob p q → (t : ℕ) → t < n →
      Marked a NoneEnabled left t p → Marked b NoneEnabled right t q → left t p ≡ right t q
  same_at sa sb p q equal t in_run lm rm =
      let x = shared_bits a b oa ob left right t in
      let ld = settled_depth a left sa equal.left_unfolds.1 t lm in
      let rd = settled_depth b right sb equal.right_unfolds.1 t rm in
      let l : tree_value x equal.left_tree ≡ left (t - 0) p = tree_is_run a oa n left alike.left_run t in_run x (λ p i k h le. left_bits t p i k h) equal.left_unfolds.1 (omega (arith, ld)) in
      let r : tree_value x equal.right_tree ≡ right (t - 0) q = tree_is_run b ob n right alike.right_run t in_run x (λ q i k h le. right_bits t in_run q i k h) equal.right_unfolds.1 (omega (arith, rd)) in
      let zero' : t - 0 ≡ t = omega arith in
      ap (λ s. left s p) (sym zero') ∙ (sym l ∙ (equal.same x tt ∙ (r ∙ ap (λ s. right s q) zero')))

-- without exposed latches
pub equal_functions_agree : {P Q : Type 0} (a : Circuit P) (b : Circuit Q) (oa ob : List ℕ) → AreNumbered a b oa ob → IsSingleDriven a → IsSingleDriven b →
    ((p : P) (q : Q) → IsPair [] a b p q → HaveEqualFunctions a b oa ob p q) → Agree Plain a b
equal_functions_agree a b oa ob numbered sa sb equal n left right alike t p q in_run pair lm rm =
    same_at a b oa ob numbered left right n alike sa sb p q (equal p q pair) t in_run lm rm
