-- The lines of the items of a list so far, and one more.
use Rattle.std.proofs.Common.{◌≡◌, ℕ, ◌+◌, ◌<◌, List, [], ◌∷◌, ◌++◌, length, take, get_or, sym, ◌∙◌, ap}
use Rattle.std.specs.List.{flat_map}
use Rattle.std.proofs.lemmas.List.{take_more, flat_map_more}

pub lines_more : {X : Type 0} (line : X → List ℕ) (front text new : List ℕ) (xs : List X) (i : ℕ) (x : X) → text ≡ front ++ flat_map line (take i xs) → i < length xs → x ≡ get_or xs i x → new ≡ text ++ line x → new ≡ front ++ flat_map line (take (i + 1) xs)
lines_more line front text new xs i x before within is grown =
    let taken : take (i + 1) xs ≡ take i xs ++ x ∷ [] = take_more xs i x within ∙ ap (λ z. take i xs ++ z ∷ []) (sym is) in
    grown ∙ (ap (λ ys. ys ++ line x) before ∙ (flat_map_more line front (take i xs) x ∙ ap (λ zs. front ++ flat_map line zs) (sym taken)))
