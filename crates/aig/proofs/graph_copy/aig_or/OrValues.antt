-- The two shorter literals have the value of the and, and the literal that of the or.
use Rattle.std.proofs.Common.{◌≡◌, ◌∙◌, ℕ, zero, suc, ◌+◌, ◌/◌, ◌%◌, ◌*◌, ◌==◌, ◌||◌, ◌&&◌, not, Bool, true, false, if◌then◌else◌, List, slice_get, Option, Some, None, refl, sym, ap, subst, inl, inr, arith}
use Rattle.std.specs.Prelude.{◌⊎◌, option_map, unwrap_or}
use Rattle.std.specs.Option.{option_or}
use Rattle.std.proofs.lemmas.Bool.{false≢true}
use Rattle.std.proofs.lemmas.Option.{none-some, same_Some}
use Rattle.aig.specs.declared.node.Lit.{Lit}
use Rattle.aig.specs.declared.node.Node.{Node}
use Rattle.aig.specs.declared.node.Node.TheVariants.{And}
use Rattle.aig.specs.Graph.{IsGraph, flip}
use Rattle.aig.specs.Rules.{simple_and}
use Rattle.aig.specs.Values.{value}
use Rattle.aig.proofs.Literals.{parity, flip-even}
use Rattle.aig.proofs.Meaning.{value-flip}
use Rattle.aig.proofs.CoverMeaning.{value-lit, value-and, value-zero, value-one}
use Rattle.aig.proofs.Insert.{simple_and-is}
use Rattle.aig.specs.graph_copy.aig_or.ShortOr.{node_operands, operands, either, is_conjunct, with_sign, by_operands, restricted, under, one_and, split_and, shorter_and, short_and, IsShortOr}
use Rattle.aig.proofs.graph_copy.aig_or.OrOperands.{passed, both_passed, one_passed, node_at, operands_lit}

not_one : (b : Bool) → not b ≡ true → b ≡ false
not_one true h = sym h
not_one false h = refl

and_swapped : (b c : Bool) → (b && c) ≡ (c && b)
and_swapped true true = refl
and_swapped true false = refl
and_swapped false true = refl
and_swapped false false = refl

-- the second has to be right only where the first is 1
and_where : (b c d : Bool) → (b ≡ true → c ≡ d) → (b && c) ≡ (b && d)
and_where true c d h = h refl
and_where false c d h = refl

and_third : (b c d : Bool) → (b && (c && d)) ≡ (c && (b && d))
and_third true true d = refl
and_third true false d = refl
and_third false true d = refl
and_third false false d = refl

and_one : (b c : Bool) → c ≡ true → (b && c) ≡ b
and_one true c h = h
and_one false c h = refl

-- not both not
or_by_and : (b c : Bool) → not (not b && not c) ≡ (b || c)
or_by_and true c = refl
or_by_and false true = refl
or_by_and false false = refl

module _ (g : List Node) (graph : IsGraph g) (a : ℕ → Bool) where
  operands_value : (x : ℕ) (l r : Lit) → operands g x ≡ Some (l, r) → value g a x ≡ (value g a l.0 && value g a r.0)
  operands_value x l r are = value-lit g graph a (And l r) x (operands_lit g x l r are)

  -- a conjunct is 1 where the literal is
  conjunct_value : (steps e x : ℕ) → is_conjunct g steps e x ≡ true → value g a x ≡ true → value g a e ≡ true
  unfolding is_conjunct
  conjunct_value zero e x is one = subst (λ (k : ℕ). value g a k ≡ true) (passed x e is) one
  conjunct_value (suc steps) e x is one = elim (one_passed (x == e) (either (is_conjunct g steps e) (operands g x)) is) [
    | inl same ↦ subst (λ (k : ℕ). value g a k ≡ true) (passed x e same) one
    | inr under ↦ below (λ y. conjunct_value steps e y) (operands g x) refl under
  ]
    where
      below : ((y : ℕ) → is_conjunct g steps e y ≡ true → value g a y ≡ true → value g a e ≡ true) → (o : Option (Lit × Lit)) → operands g x ≡ o → either (is_conjunct g steps e) o ≡ true → value g a e ≡ true
      below lower None are h = absurd (false≢true h)
      below lower (Some (l, r)) are h =
          let ones = both_passed (value g a l.0) (value g a r.0) (sym (operands_value x l r are) ∙ one) in
          elim (one_passed (is_conjunct g steps e l.0) (is_conjunct g steps e r.0) h) [
            | inl left ↦ lower l.0 left ones.0
            | inr right ↦ lower r.0 right ones.1
          ]

  -- a literal with the value of the node's and, with the literal's sign
  sign_value : (x y : ℕ) (l r : Lit) → slice_get g (x / 2) ≡ Some (And l r) → value g a y ≡ (value g a l.0 && value g a r.0) → value g a (with_sign x y) ≡ value g a x
  unfolding with_sign
  sign_value x y l r at is = by (x % 2 == 0) refl
    where
      by : (b : Bool) → (x % 2 == 0) ≡ b → value g a (if b then y else flip y) ≡ value g a x
      by true e = is ∙ sym (value-lit g graph a (And l r) x (x / 2, (let even : x % 2 ≡ 0 = passed (x % 2) 0 e in omega arith), at))
      by false e =
          value-flip g a y ∙ (ap not (is ∙ sym (value-lit g graph a (And l r) (2 * (x / 2)) (x / 2, refl, at))) ∙ (sym (value-flip g a (2 * (x / 2))) ∙ ap (value g a) (odd (parity x))))
        where
          odd : (x % 2 ≡ 0) ⊎ (x % 2 ≡ 1) → flip (2 * (x / 2)) ≡ x
          odd (inl even) = absurd (false≢true (sym e ∙ ap (λ (k : ℕ). k == 0) even))
          odd (inr one) = flip-even (2 * (x / 2)) (omega arith) ∙ (let back : 2 * (x / 2) + 1 ≡ x = omega (arith, one) in back)

  node_value : (read : ℕ → ℕ) → ((y : ℕ) → value g a (read y) ≡ value g a y) → (x : ℕ) (o : Option (Lit × Lit)) → node_operands g x ≡ o → value g a (by_operands read x o) ≡ value g a x
  node_value read same x None are = refl
  node_value read same x (Some (l, r)) are = by (simple_and (read l.0) (read r.0)) refl
    where
      by : (o : Option ℕ) → simple_and (read l.0) (read r.0) ≡ o → value g a (unwrap_or (option_map (with_sign x) o) x) ≡ value g a x
      by None none = refl
      by (Some y) is =
          sign_value x y l r (node_at g x l r are)
          (value-and g graph a (read l.0) (read r.0) y (simple_and-is g (read l.0) (read r.0) y is) ∙ (ap (λ (b : Bool). b && value g a (read r.0)) (same l.0) ∙ ap (λ (b : Bool). value g a l.0 && b) (same r.0)))

  restricted_value : (steps c x : ℕ) → value g a c ≡ true → value g a (restricted g steps c x) ≡ value g a x
  unfolding restricted
  restricted_value zero c x one = refl
  restricted_value (suc steps) c x one = first (λ y. restricted_value steps c y one) (is_conjunct g 7 x c) refl
    where
      second : ((y : ℕ) → value g a (restricted g steps c y) ≡ value g a y) → (b : Bool) → is_conjunct g 7 (flip x) c ≡ b → value g a (if b then 0 else by_operands (restricted g steps c) x (node_operands g x)) ≡ value g a x
      second same true is = value-zero g graph a ∙ sym (not_one (value g a x) (sym (value-flip g a x) ∙ conjunct_value 7 (flip x) c is one))
      second same false is = node_value (restricted g steps c) same x (node_operands g x) refl

      first : ((y : ℕ) → value g a (restricted g steps c y) ≡ value g a y) → (b : Bool) → is_conjunct g 7 x c ≡ b →
          value g a (if b then 1 else if is_conjunct g 7 (flip x) c then 0 else by_operands (restricted g steps c) x (node_operands g x)) ≡ value g a x
      first same true is = value-one g graph a ∙ sym (conjunct_value 7 x c is one)
      first same false is = second same (is_conjunct g 7 (flip x) c) refl

  -- a literal has its value where the other one is 1
  under_value : (c x : ℕ) → value g a c ≡ true → value g a (under g c x) ≡ value g a x
  unfolding under
  under_value c x one = by (restricted g 7 (flip x) (flip c) == 1) refl
    where
      implied : restricted g 7 (flip x) (flip c) ≡ 1 → (b : Bool) → value g a x ≡ b → b ≡ true
      implied is true x_is = refl
      implied is false x_is =
          absurd (false≢true (sym (value-flip g a c ∙ ap not one) ∙ (sym (restricted_value 7 (flip x) (flip c) (value-flip g a x ∙ ap not x_is)) ∙ (ap (value g a) is ∙ value-one g graph a))))

      by : (b : Bool) → (restricted g 7 (flip x) (flip c) == 1) ≡ b → value g a (if b then 1 else restricted g 7 c x) ≡ value g a x
      by true e = value-one g graph a ∙ sym (implied (passed (restricted g 7 (flip x) (flip c)) 1 e) (value g a x) refl)
      by false e = restricted_value 7 c x one

  under_and : (l r : ℕ) → (value g a l && value g a (under g l r)) ≡ (value g a l && value g a r)
  under_and l r = and_where (value g a l) (value g a (under g l r)) (value g a r) (under_value l r)

  one_value : (l r x : ℕ) → one_and g l r ≡ Some x → value g a x ≡ (value g a l && value g a r)
  unfolding one_and
  one_value l r x = by (under g (under g l r) l == 1) refl
    where
      whole : under g (under g l r) l ≡ 1 → value g a (under g l r) ≡ (value g a l && value g a r)
      whole is =
          sym (and_one (value g a (under g l r)) (value g a (under g (under g l r) l)) (ap (value g a) is ∙ value-one g graph a))
          ∙ (under_and (under g l r) l ∙ (and_swapped (value g a (under g l r)) (value g a l) ∙ under_and l r))

      by : (b : Bool) → (under g (under g l r) l == 1) ≡ b → (if b then Some (under g l r) else None) ≡ Some x → value g a x ≡ (value g a l && value g a r)
      by true is e = subst (λ (k : ℕ). value g a k ≡ (value g a l && value g a r)) (same_Some (under g l r) x e) (whole (passed (under g (under g l r) l) 1 is))
      by false is e = absurd (none-some x e)

  -- the value of both literals of a pair
  abbrev pair_value : ℕ × ℕ → Bool
  pair_value p = value g a p.0 && value g a p.1

  split_value : (l r : ℕ) (p : ℕ × ℕ) (o : Option (Lit × Lit)) → operands g r ≡ o → split_and g l o ≡ Some p → pair_value p ≡ (value g a l && value g a r)
  split_value l r p None are is = absurd (none-some p is)
  split_value l r p (Some (c, d)) are is = first (one_and g l d.0) refl is
    where
      -- an operand, and the other one with l
      whole : (e f x : ℕ) → value g a r ≡ (value g a e && value g a f) → one_and g l f ≡ Some x → (value g a e && value g a x) ≡ (value g a l && value g a r)
      whole e f x own one =
          ap (λ (b : Bool). value g a e && b) (one_value l f x one) ∙ (and_third (value g a e) (value g a l) (value g a f) ∙ sym (ap (λ (b : Bool). value g a l && b) own))

      second : (o : Option ℕ) → one_and g l c.0 ≡ o → option_map (λ x. (d.0, x)) o ≡ Some p → pair_value p ≡ (value g a l && value g a r)
      second None none e = absurd (none-some p e)
      second (Some x) own e =
          subst (λ (q : ℕ × ℕ). pair_value q ≡ (value g a l && value g a r)) (same_Some (d.0, x) p e) (whole d.0 c.0 x (operands_value r c d are ∙ and_swapped (value g a c.0) (value g a d.0)) own)

      first : (o : Option ℕ) → one_and g l d.0 ≡ o → option_or (option_map (λ x. (c.0, x)) o) (option_map (λ x. (d.0, x)) (one_and g l c.0)) ≡ Some p → pair_value p ≡ (value g a l && value g a r)
      first None none e = second (one_and g l c.0) refl e
      first (Some x) own e = subst (λ (q : ℕ × ℕ). pair_value q ≡ (value g a l && value g a r)) (same_Some (c.0, x) p e) (whole c.0 d.0 x (operands_value r c d are) own)

  shorter_value : (l r : ℕ) → pair_value (shorter_and g l r) ≡ (value g a l && value g a r)
  shorter_value l r = by (split_and g l (operands g r)) refl
    where
      by : (o : Option (ℕ × ℕ)) → split_and g l (operands g r) ≡ o → pair_value (unwrap_or o (under g l r, under g (under g l r) l)) ≡ (value g a l && value g a r)
      by None none = under_and (under g l r) l ∙ (and_swapped (value g a (under g l r)) (value g a l) ∙ under_and l r)
      by (Some p) is = split_value l r p (operands g r) refl is

  pub short_value : (l r : ℕ) → pair_value (short_and g l r) ≡ (value g a l && value g a r)
  unfolding short_and
  short_value l r = shorter_value (under g r l) r ∙ (and_swapped (value g a (under g r l)) (value g a r) ∙ (under_and r l ∙ and_swapped (value g a r) (value g a l)))

  -- the literal has the value of the or
  pub value-short_or : (x y lit : ℕ) → IsShortOr g x y lit → value g a lit ≡ (value g a x || value g a y)
  value-short_or x y lit (k, and, same) =
      ap (value g a) same ∙ (value-flip g a k ∙ (ap not (value-and g graph a (short_and g (flip x) (flip y)).0 (short_and g (flip x) (flip y)).1 k and ∙ short_value (flip x) (flip y))
      ∙ (ap (λ (b : Bool). not (b && value g a (flip y))) (value-flip g a x) ∙ (ap (λ (b : Bool). not (not (value g a x) && b)) (value-flip g a y) ∙ or_by_and (value g a x) (value g a y)))))
