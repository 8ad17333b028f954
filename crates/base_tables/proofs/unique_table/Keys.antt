-- Keys that stand once, and one more.
use Rattle.std.proofs.Common.{◌≡◌, ◌≢◌, ℕ, inl, inr, List, [], ◌∷◌, ◌++◌, get_or, slice_get, Some, Contains, ap, ◌∙◌, arith}
use Rattle.std.specs.List.{AllPairs}
use Rattle.std.proofs.lemmas.Option.{slice_get-get_or}
use Rattle.base_tables.proofs.unique_table.Elements.{of_at}
use Rattle.base_tables.specs.unique_table.Places.{StandOnce, IsWith}

-- no two of them are one
pub all-differ : {K : Type 0} (keys : List K) → StandOnce keys → AllPairs (λ x y. x ≢ y) keys
all-differ keys once i j d below inside same =
    let e : i ≡ j = once i j (get_or keys j d) (slice_get-get_or keys i d (omega arith) ∙ ap Some same) (slice_get-get_or keys j d inside) in
    omega (arith, e)

-- a key that is found stays
pub with-found : {K : Type 0} (keys : List K) (key : K) (number : ℕ) → slice_get keys number ≡ Some key → (new : List K) → new ≡ keys → IsWith keys key new
with-found keys key number at new same = inl (of_at keys number key at, same)

-- one that isn't goes last
pub with-new : {K : Type 0} (keys : List K) (key : K) → (Contains keys key → ⊥) → (new : List K) → new ≡ keys ++ key ∷ [] → IsWith keys key new
with-new keys key absent new longer = inr (absent, longer)
