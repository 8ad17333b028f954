-- What stands at a place of a slice that is read.
use Rattle.std.proofs.Common.{◌≡◌, ◌+◌, ◌<◌, ◌∙◌, ℕ, List, length, get_or, slice_get, Some, sym, ap, arith}
use Rattle.std.specs.Prelude.{◌⊎◌}
use Rattle.std.proofs.lemmas.Option.{slice_get-get_or, get_or_from_slice_get}
use Rattle.circuit_theory.specs.Query.{Variable}
use Rattle.cbf_unfold.specs.shift_variables.Variables.{variable_of}

-- the element that a loop is at
pub item_at : {X : Type 0} (xs ys : List X) (i : ℕ) (x : X) → ys ≡ xs → i < length ys → x ≡ get_or ys i x → slice_get xs i ≡ Some x
item_at xs ys i x same h is = ap (λ zs. slice_get zs i) (sym same) ∙ (slice_get-get_or ys i x h ∙ ap Some (sym is))

pub below_or_here : (k i : ℕ) → k < i + 1 → (k < i) ⊎ (k ≡ i)
below_or_here k i h = grind arith

-- the pair of a number in the table is its variable's input and shift
pub pair_is : (places : List (ℕ × ℕ)) (v : ℕ) (p : ℕ × ℕ) → slice_get places v ≡ Some p → variable_of places v ≡ record { input = p.0; at = p.1 }
pair_is places v p at = let e = get_or_from_slice_get places v p (0, 0) at in λ i. record { input = (e i).0; at = (e i).1 }

-- so is that of the number at a place of a list
pub shift_at : (places : List (ℕ × ℕ)) (vars : List ℕ) (k v : ℕ) (p : ℕ × ℕ) → slice_get vars k ≡ Some v → slice_get places (get_or vars k 0) ≡ Some p → (variable_of places v).at ≡ p.1
shift_at places vars k v p at there =
    ap (λ u. (variable_of places u).at) (sym (get_or_from_slice_get vars k v 0 at)) ∙ ap (λ (x : Variable ℕ). x.at) (pair_is places (get_or vars k 0) p there)
