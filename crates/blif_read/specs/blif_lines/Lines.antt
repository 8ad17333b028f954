-- The physical lines, the logical lines and the tokens of a BLIF text.
use Rattle.std.specs.Prelude.{◌≡◌, ℕ, ◌+◌, ◌-◌, ◌==◌, ◌||◌, Bool, true, false, not, if◌then◌else◌, List, [], ◌∷◌, ◌++◌, map, length, take, codes, refl}
use Rattle.std.specs.List.{filter, slice_split, before_first, suffix_len}
use Rattle.std.specs.Io.BufRead.{strip_last, ends_with_byte}
use Rattle.blif_read.specs.declared.blif_lines.line.RawLine.{RawLine}

-- a blank or a tab
abbrev pub is_blank : ℕ → Bool
is_blank b = (b == 32) || (b == 9)

abbrev pub is_hash : ℕ → Bool
is_hash b = b == 35

abbrev pub is_line_feed : ℕ → Bool
is_line_feed b = b == 10

abbrev pub is_empty : {X : Type 0} → List X → Bool
is_empty [] = true
is_empty (x ∷ xs) = false

-- the bytes without the blanks at their end
abbrev pub without_blanks : List ℕ → List ℕ
without_blanks bytes = take (length bytes - suffix_len is_blank bytes) bytes

-- a physical line without its carriage return, its comment, and the blanks at its end
unfoldable pub cut_line : List ℕ → List ℕ
cut_line piece = without_blanks (before_first is_hash (strip_last 13 piece))

-- the bytes of a line that goes on: up to its backslash, and a blank
unfoldable pub going_on : List ℕ → List ℕ
going_on body = take (length body - 1) body ++ 32 ∷ []

-- the text between line feeds; what stands after the last one is a line too, be it empty
abbrev pub physical_lines : List ℕ → List (List ℕ)
physical_lines text = slice_split is_line_feed text

-- a line
abbrev pub raw_line : ℕ → List ℕ → RawLine
raw_line number bytes = record { number = number; bytes = bytes }

-- the lines where these bytes, begun on line n, stand before the first of them
abbrev pub before_line : ℕ → List ℕ → List RawLine → List RawLine
before_line n bytes [] = raw_line n bytes ∷ []
before_line n bytes (line ∷ lines) = raw_line n (bytes ++ line.bytes) ∷ lines

-- a body that ends in a backslash goes on in the next line
abbrev pub join_line : ℕ → List ℕ → List RawLine → List RawLine
join_line n body rest = if ends_with_byte 92 body then before_line n (going_on body) rest else raw_line n body ∷ rest

-- the lines of these pieces, of which the first has the number n: each with the number of its first piece
abbrev pub joined_lines : ℕ → List (List ℕ) → List RawLine
joined_lines n [] = []
joined_lines n (piece ∷ pieces) = join_line n (cut_line piece) (joined_lines (n + 1) pieces)

-- the lines of a text, numbered from 1, those without tokens among them
abbrev pub raw_lines : List ℕ → List RawLine
raw_lines text = joined_lines 1 (physical_lines text)

-- the words between blanks
abbrev pub tokens_of : List ℕ → List (List ℕ)
tokens_of bytes = filter (λ t. not (is_empty t)) (slice_split is_blank bytes)

-- the words where this one comes first, unless it is empty
abbrev pub put_token : List ℕ → List (List ℕ) → List (List ℕ)
put_token word tokens = if is_empty word then tokens else word ∷ tokens

-- a line's number and its tokens
pub record TokenLine : Type 0 where
  pub number : ℕ
  pub tokens : List (List ℕ)

abbrev pub token_line : RawLine → TokenLine
token_line line = record { number = line.number; tokens = tokens_of line.bytes }

-- the logical lines of a text: those that have tokens
abbrev pub logical_lines : List ℕ → List TokenLine
logical_lines text = filter (λ line. not (is_empty line.tokens)) (map token_line (raw_lines text))

-- the physical lines that are left
abbrev pub physical_left : Bool → List ℕ → List (List ℕ)
physical_left true rest = []
physical_left false rest = physical_lines rest

-- the lines that are left, where the next has the number n
abbrev pub left_lines : Bool → ℕ → List ℕ → List RawLine
left_lines done n rest = joined_lines n (physical_left done rest)

-- a continued line has the number of its first piece; a comment's backslash joins nothing; a line without tokens is left out
joined_example : logical_lines (codes ".names a \\\n b # \\\n\n.end\r\n") ≡
    record { number = 1; tokens = codes ".names" ∷ codes "a" ∷ codes "b" ∷ [] } ∷ record { number = 4; tokens = codes ".end" ∷ [] } ∷ []
unfolding cut_line going_on
joined_example = refl

-- a text without bytes has one line, and no logical one
empty_example : raw_lines [] ≡ raw_line 1 [] ∷ []
unfolding cut_line
empty_example = refl

-- a comment is cut before the backslash is looked for
comment_example : logical_lines (codes "a \\ # note\nb") ≡ record { number = 1; tokens = codes "a" ∷ codes "b" ∷ [] } ∷ []
unfolding cut_line going_on
comment_example = refl

-- the backslash at the end of the text is replaced, and joins nothing
last_example : raw_lines (codes "x\\") ≡ raw_line 1 (codes "x ") ∷ []
unfolding cut_line going_on
last_example = refl

-- each physical line is cut by itself: of two backslashes the first is a byte like others
twice_example : logical_lines (codes "x \\ \\\n\ny\r") ≡ record { number = 1; tokens = codes "x" ∷ codes "\\" ∷ [] } ∷ record { number = 3; tokens = codes "y" ∷ [] } ∷ []
unfolding cut_line going_on
twice_example = refl
