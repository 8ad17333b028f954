-- Tests of what references point to.
use Rattle.std.proofs.Common.{◌≡◌, List, [], ◌∷◌, Bool, map, refl, ap, ◌||◌, suc, length}
use Rattle.std.specs.List.{list_any}

-- a test of what stands behind the items is that test of the items
pub any_behind : {X Y : Type 0} (p : Y → Bool) (f : X → Y) (xs : List X) → list_any (λ x. p (f x)) xs ≡ list_any p (map f xs)
any_behind p f [] = refl
any_behind p f (x ∷ xs) = ap (λ b. p (f x) || b) (any_behind p f xs)

-- as many items as there are references to them
pub length_behind : {X Y : Type 0} (f : X → Y) (xs : List X) → length (map f xs) ≡ length xs
length_behind f [] = refl
length_behind f (x ∷ xs) = ap (λ n. suc n) (length_behind f xs)
