-- The lines of a text, and their tokens.
use Rattle.std.specs.Prelude.{◌≡◌, ℕ, ◌==◌, ◌||◌, Bool, true, false, not, if◌then◌else◌, List, [], ◌∷◌, codes, refl}
use Rattle.std.specs.List.{filter, slice_split}
use Rattle.std.specs.Io.BufRead.{strip_last}

abbrev pub is_line_feed : ℕ → Bool
is_line_feed b = b == 10

-- a blank or a tab
abbrev pub is_blank : ℕ → Bool
is_blank b = (b == 32) || (b == 9)

abbrev pub is_empty : {X : Type 0} → List X → Bool
is_empty [] = true
is_empty (x ∷ xs) = false

-- each piece but the last stands before a line feed, and loses the carriage return at its end
abbrev pub without_returns : List (List ℕ) → List (List ℕ)
without_returns [] = []
without_returns (piece ∷ []) = piece ∷ []
without_returns (piece ∷ next ∷ more) = strip_last 13 piece ∷ without_returns (next ∷ more)

-- the text between line feeds, without the carriage return before a line feed; what stands after the last one is a line too, be it empty
abbrev pub lines_of : List ℕ → List (List ℕ)
lines_of text = without_returns (slice_split is_line_feed text)

-- the words between blanks
abbrev pub tokens_of : List ℕ → List (List ℕ)
tokens_of bytes = filter (λ t. not (is_empty t)) (slice_split is_blank bytes)

-- the words where this one comes first, unless it is empty
abbrev pub put_token : List ℕ → List (List ℕ) → List (List ℕ)
put_token word tokens = if is_empty word then tokens else word ∷ tokens

-- the byte stands first
abbrev pub begins_with : ℕ → List ℕ → Bool
begins_with b [] = false
begins_with b (c ∷ bytes) = c == b

-- a line without tokens, or one whose first token begins with `c`
abbrev pub is_passed_over : List (List ℕ) → Bool
is_passed_over [] = true
is_passed_over (token ∷ tokens) = begins_with 99 token

-- the lines that are left
abbrev pub lines_left : Bool → List ℕ → List (List ℕ)
lines_left true rest = []
lines_left false rest = lines_of rest

-- a carriage return that stands before no line feed is a byte like others
lines_example : lines_of (codes "a b\r\n\nc\r") ≡ codes "a b" ∷ [] ∷ codes "c\r" ∷ []
lines_example = refl

tokens_example : tokens_of (codes " 1\t-2  0 ") ≡ codes "1" ∷ codes "-2" ∷ codes "0" ∷ []
tokens_example = refl
