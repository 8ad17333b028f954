-- Lists with one element changed, pairs of their elements, and weaker claims of what is there.
use Rattle.std.proofs.Common.{◌≡◌, ◌≢◌, ℕ, zero, suc, ◌+◌, ◌<◌, List, [], ◌∷◌, ◌++◌, length, take, Option, Some, None, refl, sym, ◌∙◌, ap, subst, arith, inl, inr, get_or}
use Rattle.std.specs.Prelude.{◌⊎◌, slice_get, IfSome, IfNone}
use Rattle.std.specs.List.{AllPairs}
use Rattle.std.proofs.Math.ListN.{set}
use Rattle.std.proofs.lemmas.List.{get_or-set_same, get_or-set_other, length-set}
use Rattle.std.proofs.lemmas.Option.{slice_get_within, slice_get-get_or, get_or_from_slice_get}
use Rattle.signal_graph.proofs.inner_cone.circuit_theory.Sums.{same_or_not}

pub set_same : {X : Type 0} (xs : List X) (i : ℕ) (x y : X) → slice_get xs i ≡ Some x → slice_get (set xs i y) i ≡ Some y
set_same xs i x y h =
    let l : i < length xs = slice_get_within xs i x h in
    slice_get-get_or (set xs i y) i y (simp length-set l) ∙ ap Some (get_or-set_same xs i y y l)

pub set_other : {X : Type 0} (xs : List X) (i j : ℕ) (x y : X) → j ≢ i → slice_get xs j ≡ Some x → slice_get (set xs i y) j ≡ Some x
set_other xs i j x y n h =
    let l : j < length xs = slice_get_within xs j x h in
    slice_get-get_or (set xs i y) j x (simp length-set l) ∙ ap Some (get_or-set_other xs i j y x n ∙ get_or_from_slice_get xs j x x h)

pub set_cases : {X : Type 0} (xs : List X) (i j : ℕ) (y x : X) → slice_get (set xs i y) j ≡ Some x → ((j ≡ i) × (y ≡ x)) ⊎ ((j ≢ i) × (slice_get xs j ≡ Some x))
set_cases xs i j y x h = pick (same_or_not j i)
  where
    inside : j < length xs
    inside = simp length-set at (slice_get_within (set xs i y) j x h)

    pick : (j ≡ i) ⊎ (j ≢ i) → ((j ≡ i) × (y ≡ x)) ⊎ ((j ≢ i) × (slice_get xs j ≡ Some x))
    pick (inl e) =
        let l : i < length xs = omega (arith, inside, e) in
        inl (e, sym (get_or-set_same xs i y x l) ∙ subst (λ k. get_or (set xs i y) k x ≡ x) e (get_or_from_slice_get (set xs i y) j x x h))
    pick (inr n) = inr (n, slice_get-get_or xs j x inside ∙ ap Some (sym (get_or-set_other xs i j y x n) ∙ get_or_from_slice_get (set xs i y) j x x h))

pub written_back : {X : Type 0} (xs rest : List X) (n : ℕ) → n ≡ length xs → take n (xs ++ rest) ≡ xs
written_back [] rest zero e = refl
written_back [] rest (suc n) e = absurd (let z : suc n ≡ 0 = e in omega arith)
written_back (x ∷ xs) rest zero e = absurd (let z : 0 ≡ suc (length xs) = e in omega arith)
written_back (x ∷ xs) rest (suc n) e = ap (λ ys. x ∷ ys) (written_back xs rest n (let z : suc n ≡ suc (length xs) = e in omega arith))

pub AllPairs-from_at : {X : Type 0} (R : X → X → Type 0) (xs : List X) → ((i j : ℕ) (x y : X) → i < j → slice_get xs i ≡ Some x → slice_get xs j ≡ Some y → R x y) → AllPairs R xs
AllPairs-from_at R xs each = λ i j d l m. each i j (get_or xs i d) (get_or xs j d) l (slice_get-get_or xs i d (omega (arith, l, m))) (slice_get-get_or xs j d m)

pub some_weaker : {X : Type 0} (P Q : X → Type 0) (o : Option X) → ((x : X) → P x → Q x) → IfSome o P → IfSome o Q
some_weaker P Q None f h = tt
some_weaker P Q (Some x) f h = f x h

pub none_weaker : {X : Type 0} (P Q : Type 0) (o : Option X) → (P → Q) → IfNone o P → IfNone o Q
none_weaker P Q None f h = f h
none_weaker P Q (Some x) f h = tt

pub read_at : {X : Type 0} (xs : List X) (i : ℕ) (d : X) → i < length xs → slice_get xs i ≡ Some (get_or xs i d)
read_at xs i d l = slice_get-get_or xs i d l
