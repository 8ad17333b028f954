-- Lines and tokens that are written one after another.
use Rattle.std.proofs.Common.{◌≡◌, ℕ, ◌-◌, ◌<◌, ◌≤◌, Bool, true, false, not, cond, ◌&&◌, List, [], ◌∷◌, ◌++◌, length, take, get_or, refl, ◌∙◌, ap, ap₂, arith}
use Rattle.std.specs.Prelude.{◌||◌, nat_lt}
use Rattle.std.specs.List.{All, filter, slice_split}
use Rattle.std.specs.Io.BufRead.{strip_last, ends_with_byte}
use Rattle.std.proofs.lemmas.Bool.{ne_eqb}
use Rattle.std.proofs.lemmas.List.Elements.{All-weaker}
use Rattle.std.proofs.lemmas.List.Splits.{slice_split_at, slice_split_none, length-slice_split}
use Rattle.text_numbers.specs.Lines.{is_blank, is_line_feed, is_empty, without_returns, lines_of, tokens_of}
use Rattle.text_numbers.proofs.Pieces.{first_of_more}

-- bytes above a carriage return, and above a blank
abbrev pub Plain : List ℕ → Type 0
Plain bytes = All (λ b. 14 ≤ b) bytes

abbrev pub Solid : List ℕ → Type 0
Solid bytes = All (λ b. 33 ≤ b) bytes

pub solid_plain : (bytes : List ℕ) → Solid bytes → Plain bytes
solid_plain bytes h = All-weaker (λ b. 33 ≤ b) (λ b. 14 ≤ b) (λ b le. omega (arith, le)) bytes h

no_feeds : (bytes : List ℕ) → Plain bytes → All (λ b. is_line_feed b ≡ false) bytes
no_feeds bytes h = All-weaker (λ b. 14 ≤ b) (λ b. is_line_feed b ≡ false) (λ b le. ne_eqb b 10 (λ e. let z : ⊥ = omega (arith, le, e) in z)) bytes h

no_blanks : (bytes : List ℕ) → Solid bytes → All (λ b. is_blank b ≡ false) bytes
no_blanks bytes h =
    All-weaker (λ b. 33 ≤ b) (λ b. is_blank b ≡ false)
    (λ b le. ap₂ (λ x y. x || y) (ne_eqb b 32 (λ e. let z : ⊥ = omega (arith, le, e) in z)) (ne_eqb b 9 (λ e. let z : ⊥ = omega (arith, le, e) in z))) bytes h

last_fails : (a b : Bool) → b ≡ false → (a && b) ≡ false
last_fails true b e = e
last_fails false b e = refl

ends_otherwise : (bytes : List ℕ) → Plain bytes → ends_with_byte 13 bytes ≡ false
ends_otherwise [] h = refl
ends_otherwise (x ∷ xs) h =
    last_fails (nat_lt 0 (length (x ∷ xs))) _
    (ne_eqb (get_or (x ∷ xs) (length (x ∷ xs) - 1) 0) 13 (λ e. let le = h (length (x ∷ xs) - 1) 0 (omega arith) in let z : ⊥ = omega (arith, le, e) in z))

unstripped : (bytes : List ℕ) → Plain bytes → strip_last 13 bytes ≡ bytes
unstripped bytes h = ap (λ b. cond b (take (length bytes - 1) bytes) bytes) (ends_otherwise bytes h)

-- a line before others
pub line_off : (line rest : List ℕ) → Plain line → lines_of (line ++ 10 ∷ rest) ≡ line ∷ lines_of rest
line_off line rest h =
    ap without_returns (slice_split_at is_line_feed line 10 rest (no_feeds line h) refl)
    ∙ (first_of_more line (slice_split is_line_feed rest) (omega (arith, length-slice_split is_line_feed rest)) ∙ ap (λ (l : List ℕ). l ∷ lines_of rest) (unstripped line h))

kept : (word : List ℕ) → 0 < length word → (words : List (List ℕ)) → filter (λ t. not (is_empty t)) (word ∷ words) ≡ word ∷ filter (λ t. not (is_empty t)) words
kept [] h words = absurd (omega (arith, h))
kept (x ∷ xs) h words = refl

-- a token before others, and the last
pub token_off : (word rest : List ℕ) → 0 < length word → Solid word → tokens_of (word ++ 32 ∷ rest) ≡ word ∷ tokens_of rest
token_off word rest some h = ap (filter (λ t. not (is_empty t))) (slice_split_at is_blank word 32 rest (no_blanks word h) refl) ∙ kept word some (slice_split is_blank rest)

pub last_token : (word : List ℕ) → 0 < length word → Solid word → tokens_of word ≡ word ∷ []
last_token word some h = ap (filter (λ t. not (is_empty t))) (slice_split_none is_blank word (no_blanks word h)) ∙ kept word some []
