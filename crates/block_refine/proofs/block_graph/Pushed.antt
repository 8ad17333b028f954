-- A list that a loop pushes to, behind what stood there before.
use Rattle.std.proofs.Common.{◌≡◌, ◌∙◌, ◌+◌, ◌<◌, ℕ, List, [], ◌∷◌, ◌++◌, length, map, take, get_or, sym, ap, append_assoc}
use Rattle.std.proofs.lemmas.List.{append-nil, map-append, take_more}

pub pushed_none : {X Y : Type 0} (f : X → Y) (old : List Y) (xs : List X) → old ≡ old ++ map f (take 0 xs)
pushed_none f old xs = sym (append-nil old)

pub pushed_more : {X Y : Type 0} (f : X → Y) (old made new : List Y) (xs : List X) (i : ℕ) (x : X) → i < length xs → x ≡ get_or xs i x → made ≡ old ++ map f (take i xs) → new ≡ made ++ f x ∷ [] → new ≡ old ++ map f (take (i + 1) xs)
pushed_more f old made new xs i x inside is so push =
    push
    ∙ (ap (λ zs. zs ++ f x ∷ []) so
    ∙ (append_assoc old (map f (take i xs)) (f x ∷ [])
    ∙ ap (λ zs. old ++ zs) (ap (λ y. map f (take i xs) ++ f y ∷ []) is ∙ sym (ap (map f) (take_more xs i x inside) ∙ map-append f (take i xs) (get_or xs i x ∷ [])))))

-- what two loops push, one after the other
pub both_sides : {X Y : Type 0} (f g : X → Y) (none first second : List Y) (left right xs ys : List X) → none ≡ [] → left ≡ xs → right ≡ ys → first ≡ none ++ map f left → second ≡ first ++ map g right → second ≡ map f xs ++ map g ys
both_sides f g none first second left right xs ys empty left_is right_is one two =
    two
    ∙ (ap (λ zs. zs ++ map g right) (one ∙ ap (λ zs. zs ++ map f left) empty)
    ∙ (ap (λ zs. map f zs ++ map g right) left_is
    ∙ ap (λ zs. map f xs ++ map g zs) right_is))
