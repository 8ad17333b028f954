-- A list of one element over and over.
use Rattle.std.proofs.Common.{◌≡◌, ℕ, zero, suc, replicate, slice_get, Some, sym}
use Rattle.std.proofs.lemmas.Option.{none-some, same_Some}

-- all elements are the same
pub same_filled : {X : Type 0} (n : ℕ) (y : X) (i : ℕ) (x : X) → slice_get (replicate n y) i ≡ Some x → x ≡ y
same_filled zero y i x h = absurd (none-some x h)
same_filled (suc n) y zero x h = sym (same_Some y x h)
same_filled (suc n) y (suc i) x h = same_filled n y i x h
