-- A text that grows by a piece for each item of a list.
use Rattle.std.proofs.Common.{◌≡◌, ◌+◌, ◌<◌, ℕ, List, ◌++◌, length, take, get_or, sym, ap, ◌∙◌}
use Rattle.std.specs.List.{flat_map}
use Rattle.std.proofs.lemmas.List.{append_assoc, take_more, flat_map_more}

pub piece_more : {X : Type 0} (f : X → List ℕ) (before text new : List ℕ) (xs : List X) (i : ℕ) (x d : X) → text ≡ before ++ flat_map f (take i xs) → i < length xs → new ≡ text ++ f x → x ≡ get_or xs i d → new ≡ before ++ flat_map f (take (i + 1) xs)
piece_more f before text new xs i x d front inside grown told =
    grown ∙ ap (λ t. t ++ f x) front ∙ ap (λ y. (before ++ flat_map f (take i xs)) ++ f y) told ∙ flat_map_more f before (take i xs) (get_or xs i d) ∙ ap (λ ys. before ++ flat_map f ys) (sym (take_more xs i d inside))

-- four pieces, one behind the other, and three more at once
pub seven_pieces : (t a b c d e f g x y z w v : List ℕ) → x ≡ t ++ a → y ≡ x ++ b → z ≡ y ++ c → w ≡ z ++ d → v ≡ w ++ (e ++ f ++ g) → v ≡ t ++ (a ++ b ++ c ++ d ++ e ++ f ++ g)
seven_pieces t a b c d e f g x y z w v p q r s u =
    u ∙ ap (λ (l : List ℕ). l ++ (e ++ f ++ g)) (s ∙ ap (λ (l : List ℕ). l ++ d) (r ∙ ap (λ (l : List ℕ). l ++ c) (q ∙ ap (λ (l : List ℕ). l ++ b) p))) ∙ simp append_assoc
