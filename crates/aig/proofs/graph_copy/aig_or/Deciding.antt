-- What the tests find out step by step.
use Rattle.std.proofs.Common.{◌≡◌, ◌∙◌, ℕ, zero, suc, ◌+◌, ◌*◌, ◌<◌, ◌==◌, ◌||◌, ◌&&◌, Bool, true, false, if◌then◌else◌, List, length, Option, Some, None, refl, sym, ap, subst, arith}
use Rattle.std.specs.Prelude.{unwrap_or}
use Rattle.std.proofs.lemmas.Bool.{false≢true}
use Rattle.std.proofs.lemmas.Bool.Decides.{Decides-eqb}
use Rattle.aig.specs.declared.node.Lit.{Lit}
use Rattle.aig.specs.declared.node.Node.{Node}
use Rattle.aig.specs.Graph.{IsGraph, flip}
use Rattle.aig.specs.Values.{value}
use Rattle.aig.specs.graph_copy.aig_or.ShortOr.{node_operands, operands, either, is_conjunct, by_operands, restricted, under, split_and, shorter_and, short_and}
use Rattle.aig.proofs.graph_copy.aig_or.OrOperands.{passed}
use Rattle.aig.proofs.graph_copy.aig_or.OrValues.{short_value}
use Rattle.aig.proofs.graph_copy.aig_or.OrStaying.{short_within}

failed : (m n : ℕ) → (m ≡ n → ⊥) → (m == n) ≡ false
failed m n differ = by (m == n) refl
  where
    by : (b : Bool) → (m == n) ≡ b → b ≡ false
    by true e = absurd (differ (passed m n e))
    by false e = refl

or_true : (b c : Bool) → b ≡ true → true ≡ (b || c)
or_true b c h = sym (ap (λ (d : Bool). d || c) h)

-- the first of two tests passed, and the second was what was left
pub or_first : (k m b : Bool) → b ≡ k → b ≡ true → b ≡ (k || m)
or_first true m b same is = is
or_first false m b same is = absurd (false≢true (sym same ∙ is))

pub or_second : (k m b c : Bool) → b ≡ k → b ≡ false → c ≡ m → c ≡ (k || m)
or_second true m b c same is other = absurd (false≢true (sym is ∙ same))
or_second false m b c same is other = other

module _ (g : List Node) (e x : ℕ) where
  pub conjunct_itself : (steps : ℕ) → x ≡ e → true ≡ is_conjunct g steps e x
  unfolding is_conjunct
  conjunct_itself zero same = sym ((Decides-eqb x e).1 same)
  conjunct_itself (suc steps) same = or_true (x == e) (either (is_conjunct g steps e) (operands g x)) ((Decides-eqb x e).1 same)

  pub conjunct_ends : (steps : ℕ) → (x ≡ e → ⊥) → steps ≡ 0 → false ≡ is_conjunct g steps e x
  unfolding is_conjunct
  conjunct_ends zero differ none = sym (failed x e differ)
  conjunct_ends (suc steps) differ none = absurd (omega (arith, none))

  -- one step down
  pub conjunct_under : (steps n : ℕ) → steps ≡ n + 1 → (x ≡ e → ⊥) → (o : Option (Lit × Lit)) → o ≡ operands g x → either (is_conjunct g n e) o ≡ is_conjunct g steps e x
  unfolding is_conjunct
  conjunct_under zero n one differ o are = absurd (omega (arith, one))
  conjunct_under (suc steps) n one differ o are =
      let same : steps ≡ n = omega (arith, one) in
      subst (λ (k : ℕ). either (is_conjunct g k e) o ≡ (x == e) || either (is_conjunct g steps e) (operands g x)) same
      (ap (either (is_conjunct g steps e)) are ∙ sym (ap (λ (b : Bool). b || either (is_conjunct g steps e) (operands g x)) (failed x e differ)))

module _ (g : List Node) (a x : ℕ) where
  pub restricted_ends : (steps : ℕ) → steps ≡ 0 → x ≡ restricted g steps a x
  unfolding restricted
  restricted_ends zero none = refl
  restricted_ends (suc steps) none = absurd (omega (arith, none))

  pub restricted_on : (steps : ℕ) → (steps ≡ 0 → ⊥) → true ≡ is_conjunct g 7 x a → 1 ≡ restricted g steps a x
  unfolding restricted
  restricted_on zero some on = absurd (some refl)
  restricted_on (suc steps) some on = ap (λ (b : Bool). if b then 1 else if is_conjunct g 7 (flip x) a then 0 else by_operands (restricted g steps a) x (node_operands g x)) on

  pub restricted_off : (steps : ℕ) → (steps ≡ 0 → ⊥) → false ≡ is_conjunct g 7 x a → true ≡ is_conjunct g 7 (flip x) a → 0 ≡ restricted g steps a x
  unfolding restricted
  restricted_off zero some on off = absurd (some refl)
  restricted_off (suc steps) some on off =
      ap (λ (b : Bool). if b then 0 else by_operands (restricted g steps a) x (node_operands g x)) off
      ∙ ap (λ (b : Bool). if b then 1 else if is_conjunct g 7 (flip x) a then 0 else by_operands (restricted g steps a) x (node_operands g x)) on

  -- one step down
  pub restricted_under : (steps n : ℕ) → steps ≡ n + 1 → false ≡ is_conjunct g 7 x a → false ≡ is_conjunct g 7 (flip x) a → (o : Option (Lit × Lit)) → o ≡ node_operands g x → by_operands (restricted g n a) x o ≡ restricted g steps a x
  unfolding restricted
  restricted_under zero n one on off o are = absurd (omega (arith, one))
  restricted_under (suc steps) n one on off o are =
      let same : n ≡ steps = omega (arith, one) in
      ap (by_operands (restricted g n a) x) are
      ∙ (ap (λ (k : ℕ). by_operands (restricted g k a) x (node_operands g x)) same
      ∙ (ap (λ (b : Bool). if b then 0 else by_operands (restricted g steps a) x (node_operands g x)) off
      ∙ ap (λ (b : Bool). if b then 1 else if is_conjunct g 7 (flip x) a then 0 else by_operands (restricted g steps a) x (node_operands g x)) on))

  pub under_on : restricted g 7 (flip x) (flip a) ≡ 1 → 1 ≡ under g a x
  unfolding under
  under_on on = ap (λ (b : Bool). if b then 1 else restricted g 7 a x) (sym ((Decides-eqb (restricted g 7 (flip x) (flip a)) 1).1 on))

  pub under_else : (restricted g 7 (flip x) (flip a) ≡ 1 → ⊥) → restricted g 7 a x ≡ under g a x
  unfolding under
  under_else differ = ap (λ (b : Bool). if b then 1 else restricted g 7 a x) (sym (failed (restricted g 7 (flip x) (flip a)) 1 differ))

module _ (g : List Node) (l r : ℕ) where
  -- an operand of r, and the and of the other one and of l where r is 1
  pub short_some : (m : ℕ) → m ≡ under g r l → (p : ℕ × ℕ) → Some p ≡ split_and g m (operands g r) → p ≡ short_and g l r
  unfolding short_and
  short_some m read p is = ap (λ (o : Option (ℕ × ℕ)). unwrap_or o (under g m r, under g (under g m r) m)) is ∙ ap (λ (k : ℕ). shorter_and g k r) read

  pub short_none : (m : ℕ) → m ≡ under g r l → None ≡ split_and g m (operands g r) → (k j : ℕ) → k ≡ under g m r → j ≡ under g k m → (k, j) ≡ short_and g l r
  unfolding short_and
  short_none m read none k j left right =
      ap (λ (y : ℕ). (k, y)) right ∙ (ap (λ (y : ℕ). (y, under g y m)) left
      ∙ (ap (λ (o : Option (ℕ × ℕ)). unwrap_or o (under g m r, under g (under g m r) m)) none ∙ ap (λ (y : ℕ). shorter_and g y r) read))

  module _ (graph : IsGraph g) (p : ℕ × ℕ) (are : p ≡ short_and g l r) where
    pub pair_within : l < 2 * length g → r < 2 * length g → (p.0 < 2 * length g) × (p.1 < 2 * length g)
    pair_within left right = subst (λ (q : ℕ × ℕ). (q.0 < 2 * length g) × (q.1 < 2 * length g)) (sym are) (short_within g graph l r left right)

    pub pair_values : (a : ℕ → Bool) → (value g a p.0 && value g a p.1) ≡ (value g a l && value g a r)
    pair_values a = subst (λ (q : ℕ × ℕ). (value g a q.0 && value g a q.1) ≡ (value g a l && value g a r)) (sym are) (short_value g graph a l r)
