-- Lists that loops make, piece by piece.
use Rattle.std.proofs.Common.{◌≡◌, ℕ, ◌+◌, ◌<◌, ◌≤◌, List, [], ◌∷◌, ◌++◌, length, get_or, take, map, append_assoc, sym, ap, ◌∙◌}
use Rattle.std.specs.List.{flat_map}
use Rattle.std.proofs.lemmas.List.{take_more, take_all, map-append, flat_map_more}

-- one more image
pub map_more : {X Y : Type 0} (f : X → Y) (base now next : List Y) (xs : List X) (i : ℕ) (d : X) (y : Y) → now ≡ base ++ map f (take i xs) → next ≡ now ++ y ∷ [] → y ≡ f (get_or xs i d) → i < length xs → next ≡ base ++ map f (take (i + 1) xs)
map_more f base now next xs i d y before put is within =
    let image : map f (take (i + 1) xs) ≡ map f (take i xs) ++ y ∷ [] = ap (map f) (take_more xs i d within) ∙ (map-append f (take i xs) (get_or xs i d ∷ []) ∙ ap (λ z. map f (take i xs) ++ z ∷ []) (sym is)) in
    put ∙ (ap (λ ys. ys ++ y ∷ []) before ∙ (rw append_assoc (ap (λ ys. base ++ ys) (sym image))))

-- all images
pub map_whole : {X Y : Type 0} (f : X → Y) (base now : List Y) (xs : List X) (i : ℕ) → now ≡ base ++ map f (take i xs) → length xs ≤ i → now ≡ base ++ map f xs
map_whole f base now xs i before past = before ∙ ap (λ ys. base ++ map f ys) (take_all i xs past)

-- one more piece
pub pieces_more : {X Y : Type 0} (f : X → List Y) (base now next : List Y) (xs : List X) (i : ℕ) (x : X) → now ≡ base ++ flat_map f (take i xs) → next ≡ now ++ f x → x ≡ get_or xs i x → i < length xs → next ≡ base ++ flat_map f (take (i + 1) xs)
pieces_more f base now next xs i x before put reads within =
    let taken : take (i + 1) xs ≡ take i xs ++ x ∷ [] = take_more xs i x within ∙ ap (λ z. take i xs ++ z ∷ []) (sym reads) in
    put ∙ (ap (λ ys. ys ++ f x) before ∙ (flat_map_more f base (take i xs) x ∙ ap (λ zs. base ++ flat_map f zs) (sym taken)))

-- all pieces
pub pieces_whole : {X Y : Type 0} (f : X → List Y) (base now : List Y) (xs : List X) (i : ℕ) → now ≡ base ++ flat_map f (take i xs) → length xs ≤ i → now ≡ base ++ flat_map f xs
pieces_whole f base now xs i before past = before ∙ ap (λ ys. base ++ flat_map f ys) (take_all i xs past)
