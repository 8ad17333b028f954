-- What holds of both constants, of complements and of operands holds of the shorter literals if it holds of the two.
use Rattle.std.proofs.Common.{◌≡◌, ℕ, zero, suc, ◌/◌, ◌%◌, ◌*◌, ◌<◌, ◌==◌, Bool, true, false, if◌then◌else◌, List, length, slice_get, Option, Some, None, refl, subst, arith}
use Rattle.std.specs.Prelude.{option_map, unwrap_or}
use Rattle.std.specs.Option.{option_or}
use Rattle.std.proofs.lemmas.Option.{none-some, same_Some, slice_get_within}
use Rattle.aig.specs.declared.node.Lit.{Lit}
use Rattle.aig.specs.declared.node.Node.{Node}
use Rattle.aig.specs.declared.node.Node.TheVariants.{Constant, And}
use Rattle.aig.specs.Graph.{IsGraph, flip}
use Rattle.aig.specs.Rules.{simple_and}
use Rattle.aig.proofs.CoverMeaning.{Simple, simple}
use Rattle.aig.proofs.Literals.{flip-within}
use Rattle.aig.specs.graph_copy.aig_or.ShortOr.{node_operands, operands, is_conjunct, with_sign, by_operands, restricted, under, one_and, split_and, shorter_and, short_and}
use Rattle.aig.proofs.graph_copy.aig_or.OrOperands.{node_at, operands_lit, and_within}

pub record IsKept (g : List Node) (P : ℕ → Type 0) : Type 0 where
  pub off : P 0
  pub on : P 1
  pub complement : (x : ℕ) → P x → P (flip x)
  pub operand : (n x : ℕ) (l r : Lit) → slice_get g n ≡ Some (And l r) → x / 2 ≡ n → P x → P l.0 × P r.0

-- literals of the graph
pub within_kept : (g : List Node) → IsGraph g → IsKept g (λ x. x < 2 * length g)
within_kept g graph = record {
  off = let inside = slice_get_within g 0 Constant graph.constant in omega (arith, inside);
  on = let inside = slice_get_within g 0 Constant graph.constant in omega (arith, inside);
  complement = λ x h. flip-within x (length g) h;
  operand = λ n x l r at half h. and_within g graph n l r at;
}

module _ (g : List Node) (P : ℕ → Type 0) (kept : IsKept g P) where
  simple_keeps : (l r y : ℕ) → simple_and l r ≡ Some y → P l → P r → P y
  simple_keeps l r y = by (simple_and l r) (simple l r)
    where
      by : (o : Option ℕ) → Simple l r o → o ≡ Some y → P l → P r → P y
      by o (Simple.left_zero e) is left right = subst P (same_Some 0 y is) kept.off
      by o (Simple.right_zero e) is left right = subst P (same_Some 0 y is) kept.off
      by o (Simple.left_one e) is left right = subst P (same_Some r y is) right
      by o (Simple.right_one e) is left right = subst P (same_Some l y is) left
      by o (Simple.same e) is left right = subst P (same_Some l y is) left
      by o (Simple.complements e) is left right = subst P (same_Some 0 y is) kept.off
      by o (Simple.none differ) is left right = absurd (none-some y is)

  sign_keeps : (x y : ℕ) → P y → P (with_sign x y)
  unfolding with_sign
  sign_keeps x y h = by (x % 2 == 0)
    where
      by : (b : Bool) → P (if b then y else flip y)
      by true = h
      by false = kept.complement y h

  node_keeps : (read : ℕ → ℕ) → ((y : ℕ) → P y → P (read y)) → (x : ℕ) (o : Option (Lit × Lit)) → node_operands g x ≡ o → P x → P (by_operands read x o)
  node_keeps read lower x None are h = h
  node_keeps read lower x (Some (l, r)) are h = by (simple_and (read l.0) (read r.0)) refl
    where
      by : (o : Option ℕ) → simple_and (read l.0) (read r.0) ≡ o → P (unwrap_or (option_map (with_sign x) o) x)
      by None none = h
      by (Some y) is =
          let both = kept.operand (x / 2) x l r (node_at g x l r are) refl h in
          sign_keeps x y (simple_keeps (read l.0) (read r.0) y is (lower l.0 both.0) (lower r.0 both.1))

  pub restricted_keeps : (steps a x : ℕ) → P x → P (restricted g steps a x)
  unfolding restricted
  restricted_keeps zero a x h = h
  restricted_keeps (suc steps) a x h = first (λ y. restricted_keeps steps a y) (is_conjunct g 7 x a)
    where
      second : ((y : ℕ) → P y → P (restricted g steps a y)) → (b : Bool) → P (if b then 0 else by_operands (restricted g steps a) x (node_operands g x))
      second lower true = kept.off
      second lower false = node_keeps (restricted g steps a) lower x (node_operands g x) refl h

      first : ((y : ℕ) → P y → P (restricted g steps a y)) → (b : Bool) → P (if b then 1 else if is_conjunct g 7 (flip x) a then 0 else by_operands (restricted g steps a) x (node_operands g x))
      first lower true = kept.on
      first lower false = second lower (is_conjunct g 7 (flip x) a)

  pub under_keeps : (a x : ℕ) → P x → P (under g a x)
  unfolding under
  under_keeps a x h = by (restricted g 7 (flip x) (flip a) == 1)
    where
      by : (b : Bool) → P (if b then 1 else restricted g 7 a x)
      by true = kept.on
      by false = restricted_keeps 7 a x h

  one_keeps : (l r x : ℕ) → one_and g l r ≡ Some x → P r → P x
  unfolding one_and
  one_keeps l r x is h = by (under g (under g l r) l == 1) is
    where
      by : (b : Bool) → (if b then Some (under g l r) else None) ≡ Some x → P x
      by true e = subst P (same_Some (under g l r) x e) (under_keeps l r h)
      by false e = absurd (none-some x e)

  -- both literals of a pair
  abbrev AreKept : ℕ × ℕ → Type 0
  AreKept p = P p.0 × P p.1

  split_keeps : (l r : ℕ) (p : ℕ × ℕ) (o : Option (Lit × Lit)) → operands g r ≡ o → split_and g l o ≡ Some p → P r → AreKept p
  split_keeps l r p None are is h = absurd (none-some p is)
  split_keeps l r p (Some (c, d)) are is h = first (one_and g l d.0) refl is
    where
      both : P c.0 × P d.0
      both = let lit = operands_lit g r c d are in kept.operand lit.0 r c d lit.2 (let half : r / 2 ≡ lit.0 = omega (arith, lit.1) in half) h

      second : (o : Option ℕ) → one_and g l c.0 ≡ o → option_map (λ x. (d.0, x)) o ≡ Some p → AreKept p
      second None none e = absurd (none-some p e)
      second (Some x) own e = subst AreKept (same_Some (d.0, x) p e) (both.1, one_keeps l c.0 x own both.0)

      first : (o : Option ℕ) → one_and g l d.0 ≡ o → option_or (option_map (λ x. (c.0, x)) o) (option_map (λ x. (d.0, x)) (one_and g l c.0)) ≡ Some p → AreKept p
      first None none e = second (one_and g l c.0) refl e
      first (Some x) own e = subst AreKept (same_Some (c.0, x) p e) (both.0, one_keeps l d.0 x own both.1)

  pub shorter_keeps : (l r : ℕ) → P l → P r → AreKept (shorter_and g l r)
  shorter_keeps l r left right = by (split_and g l (operands g r)) refl
    where
      by : (o : Option (ℕ × ℕ)) → split_and g l (operands g r) ≡ o → AreKept (unwrap_or o (under g l r, under g (under g l r) l))
      by None none = (under_keeps l r right, under_keeps (under g l r) l left)
      by (Some p) is = split_keeps l r p (operands g r) refl is right

  pub short_keeps : (l r : ℕ) → P l → P r → AreKept (short_and g l r)
  unfolding short_and
  short_keeps l r left right = shorter_keeps (under g r l) r (under_keeps r l left) right
