-- The first line of a text and the first word of a line, numbers digit by digit, and the numbers of a line.
use Rattle.std.proofs.Common.{◌≡◌, ℕ, ◌+◌, ◌-◌, ◌<◌, ◌≤◌, ◌==◌, Bool, true, false, List, [], ◌∷◌, ◌++◌, length, take, drop, get_or, Some, None, refl, sym, ap, subst, ◌∙◌, arith, length-drop, append_assoc, le-leb, le-ltb, lt-ltb}
use Rattle.std.specs.Prelude.{◌≢◌, ◌*◌, Option, option_and_then}
use Rattle.std.proofs.lemmas.Bool.{ne_eqb}
use Rattle.std.proofs.lemmas.List.{take_all, take_rest, at_drop_more}
use Rattle.std.specs.List.{list_all, position_or_len}
use Rattle.std.proofs.lemmas.List.Sums.{position_or_len_is, fails_before_first}
use Rattle.std.proofs.lemmas.List.Splits.{slice_split_first, slice_split_none}
use Rattle.aiger_read.specs.aiger_records.Numbers.{is_blank, words_of, with_digit, with_digits, number_of, numbers, put_number, numbers_behind}
use Rattle.aiger_read.specs.aiger_records.Packed.{PackedNumber, with_group, packed}
use Rattle.aiger_read.specs.aiger_records.Headers.{counts_fit, numbered_header}
use Rattle.aiger_read.specs.declared.aiger_records.header.Form.{Form}

pub place_found : (p : ℕ → Bool) (xs : List ℕ) (i : ℕ) → i < length xs → ((k : ℕ) → k < i → p (get_or xs k 0) ≡ false) → p (get_or xs i 0) ≡ true → i ≡ position_or_len p xs
place_found p xs i h before here = sym (position_or_len_is p xs i 0 (omega arith) before (λ _. here))

pub place_none : (p : ℕ → Bool) (xs : List ℕ) → ((k : ℕ) → k < length xs → p (get_or xs k 0) ≡ false) → length xs ≡ position_or_len p xs
place_none p xs before = sym (position_or_len_is p xs (length xs) 0 (omega arith) before (λ h. absurd (omega arith)))

-- what a slice from n on holds
pub rest_from : (xs : List ℕ) (n : ℕ) → take (length xs - n) (drop n xs) ≡ drop n xs
rest_from xs n = take_all (length xs - n) (drop n xs) (omega (arith, length-drop n xs))

-- the first word ends at the first blank
pub word_is : (line : List ℕ) (place : ℕ) → place ≡ position_or_len is_blank line → place < length line →
    words_of line ≡ take place line ∷ words_of (drop (place + 1) line)
word_is line place is h =
    let P : ℕ → Type 0 = λ k. k < length line → words_of line ≡ take k line ∷ words_of (drop (k + 1) line) in
    subst P (sym is) (λ below. slice_split_first is_blank line 0 below) h

-- the last word has no blank
pub last_word_is : (line : List ℕ) → length line ≡ position_or_len is_blank line → words_of line ≡ line ∷ []
last_word_is line e = slice_split_none is_blank line (λ k d h. fails_before_first is_blank line k d (omega arith))

-- a number with one digit more
pub digit_more : (n : ℕ) (bytes : List ℕ) (i m : ℕ) → i < length bytes → with_digit n (get_or bytes i 0) ≡ Some m → with_digits n (drop i bytes) ≡ with_digits m (drop (i + 1) bytes)
digit_more n bytes i m h e = at_drop_more (with_digits n) bytes i 0 h ∙ ap (option_and_then (λ k. with_digits k (drop (i + 1) bytes))) e

-- what is no digit ends it
pub no_digit : (n : ℕ) (bytes : List ℕ) (i : ℕ) → i < length bytes → with_digit n (get_or bytes i 0) ≡ None → with_digits n (drop i bytes) ≡ None
no_digit n bytes i h e = at_drop_more (with_digits n) bytes i 0 h ∙ ap (option_and_then (λ k. with_digits k (drop (i + 1) bytes))) e

-- the numbers of a line, one number on
pub numbers_more : (before : List ℕ) (word : List ℕ) (words : List (List ℕ)) (n : ℕ) → number_of word ≡ Some n → numbers_behind before (numbers (word ∷ words)) ≡ numbers_behind (before ++ n ∷ []) (numbers words)
numbers_more before word words n e = ap (λ o. numbers_behind before (put_number o (numbers words))) e ∙ pushed (numbers words)
  where
    pushed : (found : Option (List ℕ)) → numbers_behind before (put_number (Some n) found) ≡ numbers_behind (before ++ n ∷ []) found
    pushed None = refl
    pushed (Some ns) = rw append_assoc refl

-- the header of five numbers or more
pub header_is : (form : Form) (xs : List ℕ) (plain : Bool) → 5 ≤ length xs → length (take (length xs - 5) (drop 5 xs)) ≤ 4 →
    counts_fit form (get_or xs 0 0) (get_or xs 1 0 + get_or xs 2 0 + get_or xs 4 0) ≡ true → plain ≡ list_all (λ n. n == 0) (take (length xs - 5) (drop 5 xs)) →
    Some (record { form = form; greatest = get_or xs 0 0; inputs = get_or xs 1 0; latches = get_or xs 2 0; outputs = get_or xs 3 0; gates = get_or xs 4 0; plain = plain }) ≡ numbered_header form xs
header_is form [] plain h few fits is = absurd (omega (arith, h))
header_is form (m ∷ []) plain h few fits is = absurd (omega (arith, h))
header_is form (m ∷ i ∷ []) plain h few fits is = absurd (omega (arith, h))
header_is form (m ∷ i ∷ l ∷ []) plain h few fits is = absurd (omega (arith, h))
header_is form (m ∷ i ∷ l ∷ o ∷ []) plain h few fits is = absurd (omega (arith, h))
header_is form (m ∷ i ∷ l ∷ o ∷ a ∷ further) plain h few fits is =
    let xs : List ℕ = m ∷ i ∷ l ∷ o ∷ a ∷ further in
    let rest : take (length xs - 5) (drop 5 xs) ≡ further = take_rest xs 5 in
    let zeros : plain ≡ list_all (λ n. n == 0) further = is ∙ ap (list_all (λ n. n == 0)) rest in
    rw (zeros, le-leb (length further) 4 (subst (λ (ns : List ℕ). length ns ≤ 4) rest few), fits) refl

-- a number in groups, one group on
pub group_more : (groups : ℕ) (text : List ℕ) (high : Option PackedNumber) → 1 ≤ length text → groups ≢ 0 → 128 ≤ get_or text 0 0 → high ≡ packed (groups - 1) (take (length text - 1) (drop 1 text)) →
    packed groups text ≡ option_and_then (with_group (get_or text 0 0 - 128)) high
group_more groups [] high h some big is = absurd (omega (arith, h))
group_more groups (byte ∷ text) high h some big is =
    let same : high ≡ packed (groups - 1) text = is ∙ ap (packed (groups - 1)) (take_rest (byte ∷ text) 1) in
    rw (ne_eqb groups 0 some, le-ltb byte 128 big) (ap (option_and_then (with_group (byte - 128))) (sym same))

-- a group behind a number, where both fit
pub group_fits : (group : ℕ) (high : PackedNumber) (low above most : ℕ) → above ≡ high.value → low ≡ group → most ≡ 4294967295 → above * 128 + low ≤ most →
    with_group group high ≡ Some (record { value = above * 128 + low; after = high.after })
group_fits group high low above most is_high is_low is_most h =
    let fits : high.value * 128 + group < 4294967296 = omega arith in
    rw (is_high, is_low, lt-ltb (high.value * 128 + group) 4294967296 fits) refl

-- a group behind a number, where both don't
pub group_full : (group : ℕ) (high : PackedNumber) (low above most : ℕ) → above ≡ high.value → low ≡ group → most ≡ 4294967295 → most < above * 128 + low → with_group group high ≡ None
group_full group high low above most is_high is_low is_most h =
    let full : 4294967296 ≤ high.value * 128 + group = omega arith in
    rw (le-ltb (high.value * 128 + group) 4294967296 full) refl
