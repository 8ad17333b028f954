-- Pairs of a list's elements by their places.
use Rattle.std.proofs.Common.{◌≡◌, ◌<◌, ℕ, List, map, get_or, slice_get, Some, sym, subst, arith}
use Rattle.std.specs.List.{AllPairs}
use Rattle.std.proofs.lemmas.Option.{get_or_from_slice_get, slice_get_within}
use Rattle.circuit_theory.proofs.Lists.{map_at}
use Rattle.circuit_theory.proofs.Numbers.{slice_get-map}
use Rattle.flat_net.proofs.Nets.{some_at}

-- what holds of each two elements, the one before the other
pub pairs_of : {X : Type 0} (R : X → X → Type 0) (xs : List X) → ((i j : ℕ) (x y : X) → i < j → slice_get xs i ≡ Some x → slice_get xs j ≡ Some y → R x y) → AllPairs R xs
pairs_of R xs f i j d below within =
    let p = some_at xs i (omega (arith, below, within)) in
    let q = some_at xs j within in
    subst (λ z. R z (get_or xs j d)) (sym (get_or_from_slice_get xs i p.0 d p.1)) (subst (λ z. R p.0 z) (sym (get_or_from_slice_get xs j q.0 d q.1)) (f i j p.0 q.0 below p.1 q.1))

pub pair_at : {X : Type 0} (R : X → X → Type 0) (xs : List X) → AllPairs R xs → (i j : ℕ) (x y : X) → i < j → slice_get xs i ≡ Some x → slice_get xs j ≡ Some y → R x y
pair_at R xs all i j x y below at to =
    subst (λ z. R z y) (get_or_from_slice_get xs i x x at) (subst (λ z. R (get_or xs i x) z) (get_or_from_slice_get xs j y x to) (all i j x below (slice_get_within xs j y to)))

-- the same of mapped elements
pub pairs_mapped : {X Y : Type 0} (f : X → Y) (R : Y → Y → Type 0) (xs : List X) → ((i j : ℕ) (x y : X) → i < j → slice_get xs i ≡ Some x → slice_get xs j ≡ Some y → R (f x) (f y)) → AllPairs R (map f xs)
pairs_mapped {X} {Y} f R xs each = pairs_of R (map f xs) (λ i j x y below at to.
    let p = map_at f xs i x at in
    let q = map_at f xs j y to in
    subst (λ (z : Y). R z y) p.2 (subst (λ (z : Y). R (f p.0) z) q.2 (each i j p.0 q.0 below p.1 q.1)))

pub mapped_pair : {X Y : Type 0} (f : X → Y) (R : Y → Y → Type 0) (xs : List X) → AllPairs R (map f xs) → (i j : ℕ) (x y : X) → i < j → slice_get xs i ≡ Some x → slice_get xs j ≡ Some y → R (f x) (f y)
mapped_pair f R xs all i j x y below at to = pair_at R (map f xs) all i j (f x) (f y) below (slice_get-map f xs i x at) (slice_get-map f xs j y to)
