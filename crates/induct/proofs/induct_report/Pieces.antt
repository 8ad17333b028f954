-- Pieces of a text that are put one behind the other.
use Rattle.std.proofs.Common.{◌≡◌, ◌∙◌, ℕ, List, ◌++◌, OnOk, Result, Ok, Err, ap}
use Rattle.std.proofs.lemmas.List.{append_assoc}

pub four_pieces : (t a b c d x y z w : List ℕ) → x ≡ t ++ a → y ≡ x ++ b → z ≡ y ++ c → w ≡ z ++ d → w ≡ t ++ (a ++ b ++ c ++ d)
four_pieces t a b c d x y z w p q r s = s ∙ ap (λ (l : List ℕ). l ++ d) (r ∙ ap (λ (l : List ℕ). l ++ c) (q ∙ ap (λ (l : List ℕ). l ++ b) p)) ∙ simp append_assoc

pub five_pieces : (t a b c d e x y z w v : List ℕ) → x ≡ t ++ a → y ≡ x ++ b → z ≡ y ++ c → w ≡ z ++ d → v ≡ w ++ e → v ≡ t ++ (a ++ b ++ c ++ d ++ e)
five_pieces t a b c d e x y z w v p q r s u =
    u ∙ ap (λ (l : List ℕ). l ++ e) (s ∙ ap (λ (l : List ℕ). l ++ d) (r ∙ ap (λ (l : List ℕ). l ++ c) (q ∙ ap (λ (l : List ℕ). l ++ b) p))) ∙ simp append_assoc

pub on_ok : {E : Type 0} {P Q : Type 0} (r : Result (Unit {0}) E) → (P → Q) → OnOk r P → OnOk r Q
on_ok (Ok u) f h = f h
on_ok (Err e) f h = tt
