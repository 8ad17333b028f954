-- The positions of pairs.
use Rattle.std.proofs.Common.{◌≡◌, ◌≢◌, ℕ, ◌<◌, List, map, get_or, Some, sym, ◌∙◌, ap, inl, inr}
use Rattle.std.specs.Prelude.{◌⊎◌, slice_get}
use Rattle.std.specs.List.{AllPairs}
use Rattle.std.proofs.lemmas.Bool.{cases_order}
use Rattle.std.proofs.lemmas.Option.{slice_get_within, get_or_from_slice_get}
use Rattle.circuit_theory.proofs.Lists.{map_at}
use Rattle.base_tables.specs.Table.{AreDistinct}

-- what is told apart pair by pair stands at one place each
pub distinct_by : {X : Type 0} (f : X → ℕ) (xs : List X) → AllPairs (λ x y. f x ≢ f y) xs → AreDistinct (map f xs)
distinct_by {X} f xs apart i j n h k = go (cases_order i j)
  where
    first : (x : X) × (slice_get xs i ≡ Some x) × (f x ≡ n)
    first = map_at f xs i n h

    second : (x : X) × (slice_get xs j ≡ Some x) × (f x ≡ n)
    second = map_at f xs j n k

    one : f (get_or xs i first.0) ≡ n
    one = ap f (get_or_from_slice_get xs i first.0 first.0 first.1) ∙ first.2

    two : f (get_or xs j first.0) ≡ n
    two = ap f (get_or_from_slice_get xs j second.0 first.0 second.1) ∙ second.2

    go : (i ≡ j) ⊎ ((i < j) ⊎ (j < i)) → i ≡ j
    go (inl e) = e
    go (inr (inl l)) = absurd (apart i j first.0 l (slice_get_within xs j second.0 second.1) (one ∙ sym two))
    go (inr (inr l)) = absurd (apart j i first.0 l (slice_get_within xs i first.0 first.1) (two ∙ sym one))
