-- Places, pieces, lines and tokens.
use Rattle.std.proofs.Common.{◌≡◌, ℕ, suc, ◌+◌, ◌-◌, ◌<◌, ◌≤◌, Bool, true, false, not, List, [], ◌∷◌, length, take, drop, get_or, refl, sym, ◌∙◌, ap, subst, arith, length-drop, cond}
use Rattle.std.proofs.lemmas.List.{take_all}
use Rattle.std.specs.List.{All, filter, slice_split, onto_first, before_first, after_first, position_or_len}
use Rattle.std.specs.Io.BufRead.{strip_last}
use Rattle.std.proofs.lemmas.List.Sums.{position_or_len_is, fails_before_first}
use Rattle.std.proofs.lemmas.List.Splits.{slice_split_first, slice_split_none, length-slice_split}
use Rattle.text_numbers.specs.Lines.{is_blank, is_line_feed, is_empty, without_returns, lines_of, lines_left, tokens_of, put_token}

pub place_found : (p : ℕ → Bool) (xs : List ℕ) (i : ℕ) → i < length xs → ((k : ℕ) → k < i → p (get_or xs k 0) ≡ false) → p (get_or xs i 0) ≡ true → i ≡ position_or_len p xs
place_found p xs i h before here = sym (position_or_len_is p xs i 0 (omega arith) before (λ _. here))

pub place_none : (p : ℕ → Bool) (xs : List ℕ) → ((k : ℕ) → k < length xs → p (get_or xs k 0) ≡ false) → length xs ≡ position_or_len p xs
place_none p xs before = sym (position_or_len_is p xs (length xs) 0 (omega arith) before (λ h. absurd (omega arith)))

pub rest_from : (xs : List ℕ) (n : ℕ) → take (length xs - n) (drop n xs) ≡ drop n xs
rest_from xs n = take_all (length xs - n) (drop n xs) (omega (arith, length-drop n xs))

all_fail : (p : ℕ → Bool) (xs : List ℕ) → position_or_len p xs ≡ length xs → All (λ x. p x ≡ false) xs
all_fail p xs e = λ k d h. fails_before_first p xs k d (omega arith)

-- a piece before others loses its carriage return
pub first_of_more : (piece : List ℕ) (pieces : List (List ℕ)) → 0 < length pieces → without_returns (piece ∷ pieces) ≡ strip_last 13 piece ∷ without_returns pieces
first_of_more piece [] h = absurd (omega (arith, h))
first_of_more piece (next ∷ more) h = refl

-- the next line ends at the first line feed
pub line_next : (done : Bool) (text : List ℕ) (place : ℕ) (rest line : List ℕ) → done ≡ false → place ≡ position_or_len is_line_feed text → place < length text → rest ≡ drop (place + 1) text →
    line ≡ strip_last 13 (take place text) → lines_left done text ≡ line ∷ lines_left done rest
line_next done text place rest line off is h e f =
    ap (λ b. lines_left b text) off
    ∙ (ap without_returns split ∙ (first_of_more (take place text) (slice_split is_line_feed rest) some ∙ (ap (λ (l : List ℕ). l ∷ lines_of rest) (sym f) ∙ ap (λ b. line ∷ lines_left b rest) (sym off))))
  where
    some : 0 < length (slice_split is_line_feed rest)
    some = omega (arith, length-slice_split is_line_feed rest)

    at : (k : ℕ) → k ≡ position_or_len is_line_feed text → k < length text → slice_split is_line_feed text ≡ take k text ∷ slice_split is_line_feed (drop (k + 1) text)
    at k q = subst (λ n. n < length text → slice_split is_line_feed text ≡ take n text ∷ slice_split is_line_feed (drop (n + 1) text)) (sym q) (λ below. slice_split_first is_line_feed text 0 below)

    split : slice_split is_line_feed text ≡ take place text ∷ slice_split is_line_feed rest
    split = at place is h ∙ ap (λ (r : List ℕ). take place text ∷ slice_split is_line_feed r) (sym e)

-- the last line has no line feed
pub line_last : (done : Bool) (text : List ℕ) → done ≡ false → length text ≡ position_or_len is_line_feed text → lines_left done text ≡ text ∷ []
line_last done text off e = ap (λ b. lines_left b text) off ∙ ap without_returns (slice_split_none is_line_feed text (all_fail is_line_feed text (sym e)))

-- a text has at most one line more than bytes
split_few : (xs : List ℕ) → length (slice_split is_line_feed xs) ≤ length xs + 1
split_few [] = omega arith
split_few (x ∷ xs) = go (is_line_feed x) (slice_split is_line_feed xs) (split_few xs)
  where
    onto : (S : List (List ℕ)) → length S ≤ length xs + 1 → length (onto_first x S) ≤ suc (length xs) + 1
    onto [] h = omega arith
    onto (s ∷ S) h = omega (arith, h)

    go : (t : Bool) (S : List (List ℕ)) → length S ≤ length xs + 1 → length (cond t ([] ∷ S) (onto_first x S)) ≤ suc (length xs) + 1
    go true S h = omega (arith, h)
    go false S h = onto S h

as_many : (pieces : List (List ℕ)) → length (without_returns pieces) ≡ length pieces
as_many [] = refl
as_many (piece ∷ []) = refl
as_many (piece ∷ next ∷ more) = ap suc (as_many (next ∷ more))

pub few_lines : (text : List ℕ) → length (lines_of text) ≤ length text + 1
few_lines text = omega (arith, as_many (slice_split is_line_feed text), split_few text)

-- the first word ends at the first blank
pub word_is : (text : List ℕ) (place : ℕ) → place ≡ position_or_len is_blank text → place < length text →
    tokens_of text ≡ put_token (take place text) (tokens_of (drop (place + 1) text))
word_is text place is h =
    let P : ℕ → Type 0 = λ k. k < length text → tokens_of text ≡ put_token (take k text) (tokens_of (drop (k + 1) text)) in
    subst P (sym is) (λ below. ap (filter (λ t. not (is_empty t))) (slice_split_first is_blank text 0 below) ∙ one (before_first is_blank text) (slice_split is_blank (after_first is_blank text))) h
  where
    one : (word : List ℕ) (words : List (List ℕ)) → filter (λ t. not (is_empty t)) (word ∷ words) ≡ put_token word (filter (λ t. not (is_empty t)) words)
    one [] words = refl
    one (x ∷ xs) words = refl

-- the last word has no blank
pub last_word_is : (text : List ℕ) → length text ≡ position_or_len is_blank text → tokens_of text ≡ put_token text []
last_word_is text e = ap (filter (λ t. not (is_empty t))) (slice_split_none is_blank text (all_fail is_blank text (sym e))) ∙ one text
  where
    one : (word : List ℕ) → filter (λ t. not (is_empty t)) (word ∷ []) ≡ put_token word []
    one [] = refl
    one (x ∷ xs) = refl

pub word_none : (word : List ℕ) (tokens : List (List ℕ)) → length word ≤ 0 → put_token word tokens ≡ tokens
word_none [] tokens h = refl
word_none (x ∷ word) tokens h = absurd (omega (arith, h))
