-- What a line begins with, and the lines of a text by it.
use Rattle.std.specs.Prelude.{ℕ, ◌==◌, nat_le, ◌&&◌, Bool, true, false, if◌then◌else◌, List, [], ◌∷◌, map, codes, bytes_eq}
use Rattle.base_tables.specs.Table.{is_among}
use Rattle.blif_read.specs.blif_lines.Lines.{TokenLine, logical_lines}
use Rattle.blif_read.specs.declared.head.Head.{Head}
use Rattle.blif_read.specs.declared.head.Head.TheVariants as head

-- the first, or nothing
abbrev pub first_or_empty : List (List ℕ) → List ℕ
first_or_empty [] = []
first_or_empty (t ∷ ts) = t

-- the last, or nothing
abbrev pub last_or_empty : List (List ℕ) → List ℕ
last_or_empty [] = []
last_or_empty (t ∷ []) = t
last_or_empty (t ∷ u ∷ ts) = last_or_empty (u ∷ ts)

-- all but the first
abbrev pub rest_of : List (List ℕ) → List (List ℕ)
rest_of [] = []
rest_of (t ∷ ts) = ts

-- all but the last
abbrev pub but_last : List (List ℕ) → List (List ℕ)
but_last [] = []
but_last (t ∷ []) = []
but_last (t ∷ u ∷ ts) = t ∷ but_last (u ∷ ts)

abbrev pub begins_with_dot : List ℕ → Bool
begins_with_dot [] = false
begins_with_dot (b ∷ bs) = b == 46

-- words of the format and of its extensions that are refused by name
abbrev pub unsupported_words : List (List ℕ)
unsupported_words =
    codes ".gate"
    ∷ codes ".mlatch"
    ∷ codes ".search"
    ∷ codes ".exdc"
    ∷ codes ".start_kiss"
    ∷ codes ".end_kiss"
    ∷ codes ".latch_order"
    ∷ codes ".code"
    ∷ codes ".cycle"
    ∷ codes ".clock_event"
    ∷ codes ".area"
    ∷ codes ".delay"
    ∷ codes ".wire_load_slope"
    ∷ codes ".wire"
    ∷ codes ".input_arrival"
    ∷ codes ".default_input_arrival"
    ∷ codes ".output_required"
    ∷ codes ".default_output_required"
    ∷ codes ".input_drive"
    ∷ codes ".default_input_drive"
    ∷ codes ".output_load"
    ∷ codes ".default_output_load"
    ∷ codes ".blackbox" ∷ []

-- what a first token with a dot says
abbrev pub dot_head : List ℕ → Head
dot_head word =
    if bytes_eq word (codes ".model") then head.Model else
    (if bytes_eq word (codes ".inputs") then head.Inputs else
    (if bytes_eq word (codes ".outputs") then head.Outputs else
    (if bytes_eq word (codes ".clock") then head.Clock else
    (if bytes_eq word (codes ".names") then head.Names else
    (if bytes_eq word (codes ".latch") then head.Latch else
    (if bytes_eq word (codes ".subckt") then head.Subckt else
    (if bytes_eq word (codes ".end") then head.End else
    (if is_among unsupported_words word then head.Unsupported else head.Unknown))))))))

-- what a line's first token says the line is
unfoldable pub head_of : List ℕ → Head
head_of word = if begins_with_dot word then dot_head word else head.Row

-- how many tokens may follow a word
abbrev pub count_fits : Head → ℕ → Bool
count_fits head.Model n = n == 1
count_fits head.Names n = nat_le 1 n
count_fits head.Latch n = nat_le 2 n && nat_le n 5
count_fits head.Subckt n = nat_le 1 n
count_fits head.End n = n == 0
count_fits h n = true

abbrev pub head_number : Head → ℕ
head_number head.Model = 0
head_number head.Inputs = 1
head_number head.Outputs = 2
head_number head.Clock = 3
head_number head.Names = 4
head_number head.Latch = 5
head_number head.Subckt = 6
head_number head.End = 7
head_number head.Row = 8
head_number head.Unsupported = 9
head_number head.Unknown = 10

abbrev pub same_head : Head → Head → Bool
same_head h k = head_number h == head_number k

-- a line: the number of its first physical line, what it begins with, its first token, and for a row
-- of a cover all its tokens, for a word the tokens after it
pub record Line : Type 0 where
  pub number : ℕ
  pub head : Head
  pub word : List ℕ
  pub args : List (List ℕ)

abbrev pub args_of : Head → List (List ℕ) → List (List ℕ)
args_of head.Row tokens = tokens
args_of h tokens = rest_of tokens

abbrev pub line_at : ℕ → Head → List (List ℕ) → Line
line_at number h tokens = record { number = number; head = h; word = first_or_empty tokens; args = args_of h tokens }

-- the line of these tokens
abbrev pub line_of : ℕ → List (List ℕ) → Line
line_of number tokens = line_at number (head_of (first_or_empty tokens)) tokens

abbrev pub headed : TokenLine → Line
headed line = line_of line.number line.tokens

-- the lines of a text that have tokens
abbrev pub lines_of : List ℕ → List Line
lines_of text = map headed (logical_lines text)
