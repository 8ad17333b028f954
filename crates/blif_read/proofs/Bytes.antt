-- Lines have no more bytes than the text, and no more tokens than bytes.
use Rattle.std.proofs.Common.{◌≡◌, ℕ, suc, ◌+◌, ◌-◌, ◌≤◌, Bool, true, false, not, cond, if◌then◌else◌, List, [], ◌∷◌, length, take, refl, arith, length-append, length-take}
use Rattle.std.specs.List.{slice_split, onto_first, before_first, position_or_len, suffix_len}
use Rattle.std.specs.Io.BufRead.{strip_last, ends_with_byte}
use Rattle.std.proofs.lemmas.List.Sums.{length-filter, count_by-le-length}
use Rattle.std.proofs.lemmas.List.Splits.{length-slice_split}
use Rattle.blif_read.specs.declared.blif_lines.line.RawLine.{RawLine}
use Rattle.blif_read.specs.blif_lines.Lines.{is_blank, is_hash, is_empty, cut_line, going_on, raw_line, before_line, join_line, joined_lines, raw_lines, physical_lines, tokens_of, is_line_feed}
use Rattle.blif_read.specs.State.{bytes_of}

take_shorter : {X : Type 0} (n : ℕ) (xs : List X) → length (take n xs) ≤ length xs
take_shorter n xs = simp length-take (omega arith)

pieces_bytes : List (List ℕ) → ℕ
pieces_bytes [] = 0
pieces_bytes (p ∷ ps) = length p + pieces_bytes ps

onto_bytes : (x : ℕ) (ps : List (List ℕ)) → pieces_bytes (onto_first x ps) ≤ suc (pieces_bytes ps)
unfolding pieces_bytes
onto_bytes x [] = omega arith
onto_bytes x (p ∷ ps) = omega arith

split_step : (p : ℕ → Bool) (x : ℕ) (xs : List ℕ) → pieces_bytes (slice_split p xs) ≤ length xs → (b : Bool) →
    pieces_bytes (cond b ([] ∷ slice_split p xs) (onto_first x (slice_split p xs))) ≤ length (x ∷ xs)
unfolding pieces_bytes
split_step p x xs h true = omega arith
split_step p x xs h false = omega (arith, onto_bytes x (slice_split p xs))

split_bytes : (p : ℕ → Bool) (xs : List ℕ) → pieces_bytes (slice_split p xs) ≤ length xs
unfolding pieces_bytes
split_bytes p [] = omega arith
split_bytes p (x ∷ xs) = split_step p x xs (split_bytes p xs) (p x)

strip_shorter : (byte : ℕ) (xs : List ℕ) → length (strip_last byte xs) ≤ length xs
strip_shorter byte xs = go (ends_with_byte byte xs)
  where
    go : (b : Bool) → length (if b then take (length xs - 1) xs else xs) ≤ length xs
    go true = take_shorter (length xs - 1) xs
    go false = omega arith

pub cut_shorter : (piece : List ℕ) → length (cut_line piece) ≤ length piece
unfolding cut_line
cut_shorter piece =
    let a = strip_shorter 13 piece in
    let b = take_shorter (position_or_len is_hash (strip_last 13 piece)) (strip_last 13 piece) in
    let line : List ℕ = before_first is_hash (strip_last 13 piece) in
    let d = take_shorter (length line - suffix_len is_blank line) line in
    omega arith

pub going_shorter : (body : List ℕ) → ends_with_byte 92 body ≡ true → length (going_on body) ≤ length body
unfolding going_on
going_shorter [] e = cc
going_shorter (x ∷ xs) e = simp (length-append, length-take) (omega arith)

before_bytes : (n : ℕ) (bytes : List ℕ) (lines : List RawLine) → bytes_of (before_line n bytes lines) ≡ length bytes + bytes_of lines
before_bytes n bytes [] = refl
before_bytes n bytes (line ∷ lines) = simp length-append (omega arith)

join_bytes : (n : ℕ) (body : List ℕ) (rest : List RawLine) → bytes_of (join_line n body rest) ≤ length body + bytes_of rest
join_bytes n body rest = go (ends_with_byte 92 body) refl
  where
    go : (b : Bool) → ends_with_byte 92 body ≡ b → bytes_of (if b then before_line n (going_on body) rest else raw_line n body ∷ rest) ≤ length body + bytes_of rest
    go true e = omega (arith, before_bytes n (going_on body) rest, going_shorter body e)
    go false e = omega arith

joined_bytes : (n : ℕ) (pieces : List (List ℕ)) → bytes_of (joined_lines n pieces) ≤ pieces_bytes pieces
unfolding pieces_bytes
joined_bytes n [] = omega arith
joined_bytes n (piece ∷ pieces) = omega (arith, join_bytes n (cut_line piece) (joined_lines (n + 1) pieces), cut_shorter piece, joined_bytes (n + 1) pieces)

-- the lines of a text have no more bytes than the text
pub raw_bytes : (text : List ℕ) → bytes_of (raw_lines text) ≤ length text
raw_bytes text = omega (arith, joined_bytes 1 (physical_lines text), split_bytes is_line_feed text)

-- no more tokens than bytes and one
pub tokens_few : (bytes : List ℕ) → length (tokens_of bytes) ≤ length bytes + 1
tokens_few bytes =
    omega (arith, length-filter (λ t. not (is_empty t)) (slice_split is_blank bytes), count_by-le-length (λ t. not (is_empty t)) (slice_split is_blank bytes), length-slice_split is_blank bytes, count_by-le-length is_blank bytes)
