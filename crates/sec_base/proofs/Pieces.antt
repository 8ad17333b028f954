-- Texts that grow by a piece.
use Rattle.std.proofs.Common.{◌≡◌, ◌+◌, ◌<◌, ℕ, Bool, List, [], ◌∷◌, ◌++◌, length, map, take, get_or, sym, ap, ◌∙◌, append_assoc}
use Rattle.std.proofs.lemmas.List.{take_more, map-append, flat_map_more}
use Rattle.sec_base.specs.Texts.{digit_of, names_text}

-- one digit more
pub digits_more : (before text new : List ℕ) (bits : List Bool) (i digit : ℕ) (d : Bool) → text ≡ before ++ map digit_of (take i bits) → i < length bits → digit ≡ digit_of (get_or bits i d)
    → new ≡ text ++ digit ∷ [] → new ≡ before ++ map digit_of (take (i + 1) bits)
digits_more before text new bits i digit d front inside told grown =
    grown ∙ ap (λ t. t ++ digit ∷ []) front ∙ append_assoc before (map digit_of (take i bits)) (digit ∷ []) ∙ ap (λ x. before ++ (map digit_of (take i bits) ++ x ∷ [])) told
    ∙ ap (λ xs. before ++ xs) (sym (map-append digit_of (take i bits) (get_or bits i d ∷ [])) ∙ ap (map digit_of) (sym (take_more bits i d inside)))

-- one name more, behind a blank
pub names_more : (before text one new : List ℕ) (names : List (List ℕ)) (i : ℕ) (name d : List ℕ) → text ≡ before ++ names_text (take i names) → i < length names → one ≡ text ++ 32 ∷ []
    → new ≡ one ++ name → name ≡ get_or names i d → new ≡ before ++ names_text (take (i + 1) names)
names_more before text one new names i name d front inside blank grown told =
    grown ∙ ap (λ t. t ++ name) (blank ∙ ap (λ t. t ++ 32 ∷ []) front) ∙ append_assoc (before ++ names_text (take i names)) (32 ∷ []) name ∙ ap (λ x. (before ++ names_text (take i names)) ++ (32 ∷ x)) told
    ∙ flat_map_more (λ n. 32 ∷ n) before (take i names) (get_or names i d) ∙ ap (λ ns. before ++ names_text ns) (sym (take_more names i d inside))
