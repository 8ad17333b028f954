-- Numbers below a bound as they are, and others as their places.
use Rattle.std.proofs.Common.{◌≡◌, ◌∙◌, ◌⊎◌, ℕ, ◌+◌, ◌<◌, ◌≤◌, List, [], ◌∷◌, ◌++◌, length, slice_get, Some, refl, sym, ap, arith, inl, inr}
use Rattle.std.proofs.lemmas.Option.{slice_get_within, same_Some}
use Rattle.flat_net.proofs.Growth.{slice_get-append, slice_get-push, length-push}
use Rattle.induct.specs.Inductions.{AreLowered}

-- as far as so many numbers
pub record AreLoweredTo (bound from : ℕ) (numbers : List ℕ) (count : ℕ) (made : List ℕ) : Type 0 where
  pub each : length made ≡ count
  pub low : (k i : ℕ) → k < count → slice_get numbers k ≡ Some i → i < bound → slice_get made k ≡ Some i
  pub high : (k i : ℕ) → k < count → slice_get numbers k ≡ Some i → bound ≤ i → slice_get made k ≡ Some (from + k)

less_or_same : (x s : ℕ) → x < s + 1 → (x < s) ⊎ (x ≡ s)
less_or_same x s l = grind arith

module _ (bound from : ℕ) (numbers : List ℕ) (count : ℕ) (made : List ℕ) (is : AreLoweredTo bound from numbers count made) (n x : ℕ) (here : slice_get numbers count ≡ Some n) (low_is : n < bound → x ≡ n) (high_is : bound ≤ n → x ≡ from + count) where
  last : (k : ℕ) → k ≡ count → slice_get (made ++ x ∷ []) k ≡ Some x
  last k e = slice_get-push made x k (let z : k ≡ length made = omega (arith, e, is.each) in z)

  own : (k i : ℕ) → k ≡ count → slice_get numbers k ≡ Some i → n ≡ i
  own k i e at = same_Some n i (sym here ∙ (ap (slice_get numbers) (sym e) ∙ at))

  low_more : (k i : ℕ) → (k < count) ⊎ (k ≡ count) → slice_get numbers k ≡ Some i → i < bound → slice_get (made ++ x ∷ []) k ≡ Some i
  low_more k i (inl l) at b = slice_get-append made (x ∷ []) k i (is.low k i l at b)
  low_more k i (inr e) at b = let same = own k i e at in last k e ∙ ap Some (low_is (omega (arith, same, b)) ∙ same)

  high_more : (k i : ℕ) → (k < count) ⊎ (k ≡ count) → slice_get numbers k ≡ Some i → bound ≤ i → slice_get (made ++ x ∷ []) k ≡ Some (from + k)
  high_more k i (inl l) at b = slice_get-append made (x ∷ []) k (from + k) (is.high k i l at b)
  high_more k i (inr e) at b = let same = own k i e at in last k e ∙ ap Some (high_is (omega (arith, same, b)) ∙ ap (λ z. from + z) (sym e))

  pub lowered_more : AreLoweredTo bound from numbers (count + 1) (made ++ x ∷ [])
  lowered_more = record {
    each = length-push made x ∙ ap (λ z. z + 1) is.each;
    low = λ k i l at b. low_more k i (less_or_same k count l) at b;
    high = λ k i l at b. high_more k i (less_or_same k count l) at b;
  }

pub lowered_all : (bound from : ℕ) (numbers : List ℕ) (count : ℕ) (made : List ℕ) → count ≡ length numbers → AreLoweredTo bound from numbers count made → AreLowered bound from numbers made
lowered_all bound from numbers count made e is = record {
  each = is.each ∙ e;
  low = λ k i at b. is.low k i (let l = slice_get_within numbers k i at in omega (arith, l, e)) at b;
  high = λ k i at b. is.high k i (let l = slice_get_within numbers k i at in omega (arith, l, e)) at b;
}
