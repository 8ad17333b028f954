-- The first values of a sequence, as a list.
use Rattle.std.proofs.Common.{◌≡◌, ◌+◌, ◌<◌, ◌∙◌, ℕ, List, [], ◌∷◌, ◌++◌, length, map, slice_get, Some, refl, sym, ap, ap₂, arith}
use Rattle.std.proofs.lemmas.List.FromFn.{length-map-range_with_len, get_or-map-range_with_len, map-range_with_len_more}
use Rattle.std.proofs.lemmas.Option.{slice_get-get_or}
use Rattle.std.specs.List.{range_with_len}
use Rattle.job_gen.specs.pair_gen.Sketch.{first_of}

module _ {X : Type 0} (f : ℕ → X) where
  pub first_of-none : first_of f 0 ≡ []
  unfolding first_of
  first_of-none = refl

  pub first_of-more : (n : ℕ) → first_of f (n + 1) ≡ first_of f n ++ f n ∷ []
  unfolding first_of
  first_of-more n = map-range_with_len_more f 0 n n (omega arith)

  pub length-first_of : (n : ℕ) → length (first_of f n) ≡ n
  unfolding first_of
  length-first_of n = length-map-range_with_len f 0 n

  pub first_of-at : (n i : ℕ) → i < n → slice_get (first_of f n) i ≡ Some (f i)
  unfolding first_of
  first_of-at n i l =
      slice_get-get_or (map f (range_with_len 0 n)) i (f i) (let long = length-map-range_with_len f 0 n in omega (arith, long, l))
      ∙ ap Some (get_or-map-range_with_len f 0 n i i (f i) l (omega arith))

  -- the next value stands behind the first ones
  pub push_more : (n m : ℕ) (xs : List X) (x : X) → xs ≡ first_of f n → x ≡ f n → m ≡ n + 1 → xs ++ x ∷ [] ≡ first_of f m
  push_more n m xs x list here next = ap₂ (λ (ys : List X) (y : X). ys ++ y ∷ []) list here ∙ sym (first_of-more n) ∙ ap (first_of f) (sym next)

-- what stands at a place of such a list
pub at_first : {X : Type 0} (f : ℕ → X) (xs : List X) (n i : ℕ) → xs ≡ first_of f n → i < n → slice_get xs i ≡ Some (f i)
at_first {X} f xs n i list l = ap (λ (ys : List X). slice_get ys i) list ∙ first_of-at f n i l
