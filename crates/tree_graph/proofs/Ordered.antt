-- A list in an order is told by its members.
use Rattle.std.proofs.Common.{◌≡◌, ◌≢◌, ℕ, ◌⊎◌, inl, inr, List, [], ◌∷◌, map, refl, sym, ap, subst, ◌∙◌, arith}
use Rattle.std.specs.List.{Contains, AllPairs}
use Rattle.circuit_theory.specs.Query.{Variable, ShiftBefore}
use Rattle.circuit_theory.proofs.Lists.{Contains-head, Contains-tail, Contains-cases, map_at, at_of}
use Rattle.circuit_theory.proofs.Numbers.{distinct_at}
use Rattle.circuit_theory.proofs.Sums.{AllPairs-head, AllPairs-tail}
use Rattle.std.proofs.lemmas.Option.{none-some}
use Rattle.base_tables.specs.Table.{AreDistinct}
use Rattle.tree_graph.specs.Numbering.{entry_of}

module _ {X : Type 0} (R : X → X → Type 0) (asym : (x y : X) → R x y → R y x → ⊥) where
  module _ (x y : X) (xs ys : List X) (left : AllPairs R (x ∷ xs)) (right : AllPairs R (y ∷ ys)) where
    same_head : Contains (y ∷ ys) x → Contains (x ∷ xs) y → x ≡ y
    same_head h k = by (Contains-cases y x ys h) (Contains-cases x y xs k)
      where
        by : (y ≡ x) ⊎ Contains ys x → (x ≡ y) ⊎ Contains xs y → x ≡ y
        by (inl e) other = sym e
        by (inr m) (inl e) = e
        by (inr m) (inr n) = absurd (asym x y (AllPairs-head R x xs left y n) (AllPairs-head R y ys right x m))

    in_tail : x ≡ y → (z : X) → Contains xs z → Contains (y ∷ ys) z → Contains ys z
    in_tail e z m h = by (Contains-cases y z ys h)
      where
        by : (y ≡ z) ⊎ Contains ys z → Contains ys z
        by (inl f) =
            let later : R x z = AllPairs-head R x xs left z m in
            let itself : R z z = subst (λ (w : X). R w z) (e ∙ f) later in
            absurd (asym z z itself itself)
        by (inr n) = n

  pub ordered_one : (xs ys : List X) → AllPairs R xs → AllPairs R ys → ((x : X) → Contains xs x → Contains ys x) → ((x : X) → Contains ys x → Contains xs x) → xs ≡ ys
  ordered_one [] [] left right to from = refl
  ordered_one [] (y ∷ ys) left right to from = absurd (let h = at_of [] y (from y (Contains-head y ys)) in none-some y h.1)
  ordered_one (x ∷ xs) [] left right to from = absurd (let h = at_of [] x (to x (Contains-head x xs)) in none-some x h.1)
  ordered_one (x ∷ xs) (y ∷ ys) left right to from =
      let e : x ≡ y = same_head x y xs ys left right (to x (Contains-head x xs)) (from y (Contains-head y ys)) in
      ap (λ (z : X). z ∷ xs) e
      ∙ ap (λ (zs : List X). y ∷ zs)
      (ordered_one xs ys (AllPairs-tail R x xs left) (AllPairs-tail R y ys right) (λ z m. in_tail x y xs ys left right e z m (to z (Contains-tail x z xs m)))
      (λ z m. in_tail y x ys xs right left (sym e) z m (from z (Contains-tail y z ys m))))

pub shift_asym : (x y : Variable ℕ) → ShiftBefore x y → ShiftBefore y x → ⊥
shift_asym x y (inl h) (inl k) = omega arith
shift_asym x y (inl h) (inr k) = omega (arith, h, k.0)
shift_asym x y (inr h) (inl k) = omega (arith, h.0, k)
shift_asym x y (inr h) (inr k) = omega (arith, h.1, k.1)

entries_differ : (x y : Variable ℕ) → ShiftBefore x y → entry_of x ≢ entry_of y
entries_differ x y (inl h) e = omega (arith, h, ap (λ (p : ℕ × ℕ). p.1) e)
entries_differ x y (inr h) e = omega (arith, h.1, ap (λ (p : ℕ × ℕ). p.0) e)

pub entries_once : (variables : List (Variable ℕ)) → AllPairs ShiftBefore variables → AreDistinct (map entry_of variables)
entries_once variables ordered i j p at_i at_j =
    let x = map_at entry_of variables i p at_i in
    let y = map_at entry_of variables j p at_j in
    distinct_at entry_of variables (λ m n d l k. entries_differ _ _ (ordered m n d l k)) i j x.0 y.0 x.1 y.1 (x.2 ∙ sym y.2)
