-- What stands at a place of a list.
use Rattle.std.proofs.Common.{◌≡◌, ◌∙◌, ap, refl, ℕ, List, [], ◌∷◌, ◌++◌, length, Some, slice_get}
use Rattle.std.specs.List.{Contains}
use Rattle.std.proofs.lemmas.Option.{slice_get-get_or, slice_get_within, get_or_from_slice_get}

-- an element stands at some place
pub at_of : {X : Type 0} (xs : List X) (x : X) → Contains xs x → (i : ℕ) × (slice_get xs i ≡ Some x)
at_of xs x h = (h.0, slice_get-get_or xs h.0 x h.1 ∙ ap Some h.2)

-- what stands at a place is an element
pub of_at : {X : Type 0} (xs : List X) (i : ℕ) (x : X) → slice_get xs i ≡ Some x → Contains xs x
of_at xs i x h = (i, slice_get_within xs i x h, get_or_from_slice_get xs i x x h)

-- one element more stands behind the others
last_at : {X : Type 0} (xs : List X) (x : X) → slice_get (xs ++ x ∷ []) (length xs) ≡ Some x
last_at [] x = refl
last_at (y ∷ xs) x = last_at xs x

-- so it does in a list that is the others with it
pub put_at : {X : Type 0} (xs new : List X) (x : X) (i : ℕ) → new ≡ xs ++ x ∷ [] → i ≡ length xs → slice_get new i ≡ Some x
put_at xs new x i grown at = ap (λ ys. slice_get ys i) grown ∙ ap (slice_get (xs ++ x ∷ [])) at ∙ last_at xs x
