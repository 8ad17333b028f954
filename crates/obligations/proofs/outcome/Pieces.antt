-- Pieces of a text that are put one behind the other.
use Rattle.std.proofs.Common.{◌≡◌, ℕ, ◌<◌, ◌+◌, List, [], ◌∷◌, ◌++◌, length, take, get_or, OnOk, Result, Ok, Err, ap, ◌∙◌, sym}
use Rattle.std.specs.List.{flat_map}
use Rattle.std.proofs.lemmas.List.{append_assoc, flat_map_more, take_more}

-- what follows where a call succeeds
pub on_ok : {E : Type 0} {P Q : Type 0} (r : Result (Unit {0}) E) → (P → Q) → OnOk r P → OnOk r Q
on_ok (Ok u) f h = f h
on_ok (Err e) f h = tt

-- a line that begins with two pieces and ends with three
pub line_of : (t a b c d e x y : List ℕ) → x ≡ t ++ (a ++ b) → y ≡ x ++ (c ++ d ++ e) → y ≡ t ++ (a ++ b ++ c ++ d ++ e)
line_of t a b c d e x y p q = q ∙ ap (λ (l : List ℕ). l ++ (c ++ d ++ e)) p ∙ simp append_assoc

-- three pieces, each in two parts
pub three_pieces : (t a b c d e f x y z : List ℕ) → x ≡ t ++ (a ++ b) → y ≡ x ++ (c ++ d) → z ≡ y ++ (e ++ f) → z ≡ t ++ (a ++ (b ++ c ++ d ++ e ++ f))
three_pieces t a b c d e f x y z p q r = r ∙ ap (λ (l : List ℕ). l ++ (e ++ f)) (q ∙ ap (λ (l : List ℕ). l ++ (c ++ d)) p) ∙ simp append_assoc

-- four pieces, each in two parts
pub four_pieces : (t a b c d e f g h x y z w : List ℕ) → x ≡ t ++ (a ++ b) → y ≡ x ++ (c ++ d) → z ≡ y ++ (e ++ f) → w ≡ z ++ (g ++ h) → w ≡ t ++ (a ++ b ++ c ++ d ++ e ++ f ++ g ++ h)
four_pieces t a b c d e f g h x y z w p q r s = s ∙ ap (λ (l : List ℕ). l ++ (g ++ h)) (three_pieces t a b c d e f x y z p q r) ∙ simp append_assoc

-- four pieces, each in two parts, and two more
pub six_pieces : (t a b c d e f g h i j x y z w u v : List ℕ) → x ≡ t ++ (a ++ b) → y ≡ x ++ (c ++ d) → z ≡ y ++ (e ++ f) → w ≡ z ++ (g ++ h) → u ≡ w ++ i → v ≡ u ++ j → v ≡ t ++ (a ++ b ++ c ++ d ++ e ++ f ++ g ++ h ++ i ++ j)
six_pieces t a b c d e f g h i j x y z w u v p q r s one two =
    two ∙ ap (λ (l : List ℕ). l ++ j) (one ∙ ap (λ (l : List ℕ). l ++ i) (four_pieces t a b c d e f g h x y z w p q r s)) ∙ simp append_assoc

-- the piece of one element more of a list
pub one_more : {X : Type 0} (piece : X → List ℕ) (front : List ℕ) (xs : List X) (i : ℕ) (x : X) → i < length xs → x ≡ get_or xs i x → (front ++ flat_map piece (take i xs)) ++ piece x ≡ front ++ flat_map piece (take (i + 1) xs)
one_more piece front xs i x within is =
    flat_map_more piece front (take i xs) x
    ∙ ap (λ ys. front ++ flat_map piece ys) (ap (λ y. take i xs ++ y ∷ []) is ∙ sym (take_more xs i x within))
