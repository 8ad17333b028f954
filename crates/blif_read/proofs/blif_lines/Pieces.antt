-- Places, pieces and lines.
use Rattle.std.proofs.Common.{◌≡◌, ℕ, ◌+◌, ◌-◌, ◌<◌, ◌≤◌, Bool, true, false, List, [], ◌∷◌, ◌++◌, length, not, take, drop, get_or, refl, sym, ◌∙◌, ap, subst, arith, append_assoc, cond, length-drop}
use Rattle.std.proofs.lemmas.List.{take_all}
use Rattle.std.specs.List.{All, filter, slice_split, before_first, after_first, position_or_len, suffix_len}
use Rattle.std.specs.Io.BufRead.{ends_with_byte}
use Rattle.std.proofs.lemmas.List.Sums.{position_or_len_is, suffix_len_is, fails_before_first}
use Rattle.std.proofs.lemmas.List.Splits.{slice_split_first, slice_split_none, length-slice_split}
use Rattle.blif_read.specs.declared.blif_lines.line.RawLine.{RawLine}
use Rattle.blif_read.specs.blif_lines.Lines.{is_blank, is_line_feed, is_empty, cut_line, going_on, physical_lines, physical_left, raw_line, before_line, join_line, joined_lines, left_lines, tokens_of, put_token, without_blanks}

pub place_found : (p : ℕ → Bool) (xs : List ℕ) (i : ℕ) → i < length xs → ((k : ℕ) → k < i → p (get_or xs k 0) ≡ false) → p (get_or xs i 0) ≡ true → i ≡ position_or_len p xs
place_found p xs i h before here = sym (position_or_len_is p xs i 0 (omega arith) before (λ _. here))

pub place_none : (p : ℕ → Bool) (xs : List ℕ) → ((k : ℕ) → k < length xs → p (get_or xs k 0) ≡ false) → length xs ≡ position_or_len p xs
place_none p xs before = sym (position_or_len_is p xs (length xs) 0 (omega arith) before (λ h. absurd (omega arith)))

-- where all from n on are blanks, and not the one before it
pub blanks_from : (xs : List ℕ) (n : ℕ) → n ≤ length xs → ((k : ℕ) → n ≤ k → k < length xs → is_blank (get_or xs k 0) ≡ true) → (0 < n → is_blank (get_or xs (n - 1) 0) ≡ false) → take n xs ≡ without_blanks xs
blanks_from xs n within after before =
    let e = suffix_len_is is_blank xs n 0 within after before in
    let f : n ≡ length xs - suffix_len is_blank xs = omega arith in
    ap (λ k. take k xs) f

-- begun with no bytes, a line is what it is
pub begun_with_nothing : (n : ℕ) (text : List ℕ) → before_line n [] (joined_lines n (physical_lines text)) ≡ joined_lines n (physical_lines text)
begun_with_nothing n text = go (physical_lines text) (omega (arith, length-slice_split is_line_feed text))
  where
    twice : (bytes : List ℕ) (rest : List RawLine) → before_line n [] (before_line n bytes rest) ≡ before_line n bytes rest
    twice bytes [] = refl
    twice bytes (line ∷ lines) = refl

    either : (b : Bool) (body : List ℕ) (rest : List RawLine) →
        before_line n [] (cond b (before_line n (going_on body) rest) (raw_line n body ∷ rest)) ≡ cond b (before_line n (going_on body) rest) (raw_line n body ∷ rest)
    either true body rest = twice (going_on body) rest
    either false body rest = refl

    go : (pieces : List (List ℕ)) → 0 < length pieces → before_line n [] (joined_lines n pieces) ≡ joined_lines n pieces
    go [] h = absurd (omega arith)
    go (piece ∷ pieces) h = either (ends_with_byte 92 (cut_line piece)) (cut_line piece) (joined_lines (n + 1) pieces)

-- bytes before bytes before lines
pub before_both : (n m : ℕ) (first second : List ℕ) (lines : List RawLine) → before_line n first (before_line m second lines) ≡ before_line n (first ++ second) lines
before_both n m first second [] = refl
before_both n m first second (line ∷ lines) = ap (λ (b : List ℕ). raw_line n b ∷ lines) (sym (append_assoc first second line.bytes))

-- a body that goes on, after what was begun
pub goes_on : (n m : ℕ) (begun piece body more : List ℕ) (rest : List RawLine) → body ≡ cut_line piece → ends_with_byte 92 body ≡ true → more ≡ take (length body - 1) body →
    before_line n begun (join_line m (cut_line piece) rest) ≡ before_line n ((begun ++ more) ++ 32 ∷ []) rest
unfolding going_on
goes_on n m begun piece body more rest is ends cut =
    let P : List ℕ → Type 0 = λ b. before_line n begun (join_line m b rest) ≡ before_line n ((begun ++ more) ++ 32 ∷ []) rest in
    subst P is (rw ends (before_both n m begun (going_on body) rest ∙ ap (λ (b : List ℕ). before_line n b rest) (ap (λ (b : List ℕ). begun ++ (b ++ 32 ∷ [])) (sym cut) ∙ sym (append_assoc begun more (32 ∷ [])))))

-- the next physical line ends at the first line feed
pub next_is : (text : List ℕ) (place : ℕ) → place ≡ position_or_len is_line_feed text → place < length text →
    physical_left false text ≡ take place text ∷ physical_left false (drop (place + 1) text)
next_is text place is h =
    let P : ℕ → Type 0 = λ k. k < length text → physical_left false text ≡ take k text ∷ physical_left false (drop (k + 1) text) in
    subst P (sym is) (λ below. slice_split_first is_line_feed text 0 below) h

all_fail : (p : ℕ → Bool) (xs : List ℕ) → position_or_len p xs ≡ length xs → All (λ x. p x ≡ false) xs
all_fail p xs e = λ k d h. fails_before_first p xs k d (omega arith)

-- the last physical line has no line feed
pub last_is : (text : List ℕ) → length text ≡ position_or_len is_line_feed text → physical_left false text ≡ text ∷ []
last_is text e = slice_split_none is_line_feed text (all_fail is_line_feed text (sym e))

-- the first word ends at the first blank
pub word_is : (text : List ℕ) (place : ℕ) → place ≡ position_or_len is_blank text → place < length text →
    tokens_of text ≡ put_token (take place text) (tokens_of (drop (place + 1) text))
word_is text place is h =
    let P : ℕ → Type 0 = λ k. k < length text → tokens_of text ≡ put_token (take k text) (tokens_of (drop (k + 1) text)) in
    subst P (sym is) (λ below. ap (filter (λ t. not (is_empty t))) (slice_split_first is_blank text 0 below) ∙ one (before_first is_blank text) (slice_split is_blank (after_first is_blank text))) h
  where
    one : (word : List ℕ) (words : List (List ℕ)) → filter (λ t. not (is_empty t)) (word ∷ words) ≡ put_token word (filter (λ t. not (is_empty t)) words)
    one [] words = refl
    one (x ∷ xs) words = refl

-- the last word has no blank
pub last_word_is : (text : List ℕ) → length text ≡ position_or_len is_blank text → tokens_of text ≡ put_token text []
last_word_is text e = ap (filter (λ t. not (is_empty t))) (slice_split_none is_blank text (all_fail is_blank text (sym e))) ∙ one text
  where
    one : (word : List ℕ) → filter (λ t. not (is_empty t)) (word ∷ []) ≡ put_token word []
    one [] = refl
    one (x ∷ xs) = refl

-- a line that goes on: what is begun takes the piece, and a blank for its backslash
pub line_goes_on : (d e : Bool) (n m k : ℕ) (rest after piece body begun more : List ℕ) → physical_left d rest ≡ piece ∷ physical_left e after → m ≡ n + 1 → body ≡ cut_line piece →
    ends_with_byte 92 body ≡ true → more ≡ take (length body - 1) body → before_line k begun (left_lines d n rest) ≡ before_line k ((begun ++ more) ++ 32 ∷ []) (left_lines e m after)
line_goes_on d e n m k rest after piece body begun more split next is ends cut =
    ap (λ (ps : List (List ℕ)). before_line k begun (joined_lines n ps)) split ∙ goes_on k n begun piece body more (joined_lines (n + 1) (physical_left e after)) is ends cut
    ∙ ap (λ (i : ℕ). before_line k ((begun ++ more) ++ 32 ∷ []) (joined_lines i (physical_left e after))) (sym next)

-- what a slice from n on holds
pub rest_from : (xs : List ℕ) (n : ℕ) → take (length xs - n) (drop n xs) ≡ drop n xs
rest_from xs n = take_all (length xs - n) (drop n xs) (omega (arith, length-drop n xs))
