-- Names that aren't there, and lists with one key at most more.
use Rattle.std.proofs.Common.{◌≡◌, ℕ, Bool, true, false, List, Contains, refl, inl, inr}
use Rattle.std.specs.Prelude.{OnOk, Result, Ok, Err, ◌++◌, ◌∷◌, []}
use Rattle.base_tables.specs.unique_table.Places.{IsWith}
use Rattle.base_tables.specs.Table.{is_among}
use Rattle.base_tables.proofs.TableLemmas.{is_among-at}
use Rattle.base_tables.proofs.unique_table.Elements.{of_at}

-- a name that isn't among the names isn't found there
pub not-among : (names : List (List ℕ)) (name : List ℕ) → (Contains names name → ⊥) → is_among names name ≡ false
not-among names name absent = by (is_among names name) refl
  where
    by : (b : Bool) → is_among names name ≡ b → is_among names name ≡ false
    by true e = let at = is_among-at names name e in absurd (absent (of_at names at.0 name at.1))
    by false e = e

-- what becomes of a list with one key at most more
pub with-known : {K V E : Type 0} (r : Result V E) (old : List K) (key : K) (new : List K) → OnOk r (IsWith old key new) → OnOk r (Contains old key → new ≡ old)
with-known (Err e) old key new h = tt
with-known (Ok v) old key new (inl (there, same)) = λ known. same
with-known (Ok v) old key new (inr (absent, more)) = λ known. absurd (absent known)

pub with-added : {K V E : Type 0} (r : Result V E) (old : List K) (key : K) (new : List K) → OnOk r (IsWith old key new) → OnOk r ((Contains old key → ⊥) → new ≡ old ++ key ∷ [])
with-added (Err e) old key new h = tt
with-added (Ok v) old key new (inl (there, same)) = λ fresh. absurd (fresh there)
with-added (Ok v) old key new (inr (absent, more)) = λ fresh. more
