-- The fault of a line, by the lines before it. Lists of lines before have the latest line first.
use Rattle.std.specs.Prelude.{ℕ, ◌==◌, nat_lt, ◌&&◌, ◌||◌, not, Bool, true, false, List, [], ◌∷◌, ◌++◌, length, Option, Some, None, codes}
use Rattle.std.specs.List.{list_any, list_all, before_first, after_first}
use Rattle.circuit_theory.specs.Interface.{◌or_else◌}
use Rattle.blif_read.specs.blif_lines.sec_base.TheConstants.{MAX_NAME_BYTES}
use Rattle.blif_read.specs.blif_lines.Lines.{is_empty}
use Rattle.base_tables.specs.Table.{is_among}
use Rattle.blif_read.specs.declared.head.Head.{Head}
use Rattle.blif_read.specs.declared.head.Head.TheVariants as head
use Rattle.blif_read.specs.declared.error.ReadKind.{ReadKind}
use Rattle.blif_read.specs.declared.error.ReadKind.TheVariants as kind
use Rattle.blif_read.specs.Heads.{Line, count_fits, rest_of, but_last}
use Rattle.blif_read.specs.Rows.{is_row, is_mixed}
use Rattle.blif_read.specs.Spelled.{blocks_of, names_on, is_equals}

abbrev pub guard : Bool → ReadKind → Option ReadKind
guard true k = Some k
guard false k = None

-- a byte that a line may not have outside comments; a tab is no part of a token
abbrev pub is_control : ℕ → Bool
is_control b = nat_lt b 32 || (b == 127)

-- more than 4,096 bytes
abbrev pub is_long : List ℕ → Bool
is_long name = nat_lt MAX_NAME_BYTES (length name)

abbrev pub unless_end : Head → List Line → List Line
unless_end head.End block = []
unless_end h block = block

abbrev pub open_block : List (List Line) → List Line
open_block [] = []
open_block ([] ∷ blocks) = []
open_block ((line ∷ earlier) ∷ blocks) = unless_end line.head (line ∷ earlier)

-- the lines of the model that is open, from its `.model` on; none after an `.end`
abbrev pub open_model : List Line → List Line
open_model before = open_block (blocks_of before)

abbrev pub names_at : Head → Line → List (List (List ℕ)) → Option (Line × List (List (List ℕ))) → Option (Line × List (List (List ℕ)))
names_at head.Row line rows back = back
names_at head.Names line rows back = Some (line, rows)
names_at h line rows back = None

-- the `.names` line whose rows come next, and the rows that it has; none where the last word is another
abbrev pub last_names : List (List (List ℕ)) → List Line → Option (Line × List (List (List ℕ)))
last_names rows [] = None
last_names rows (line ∷ earlier) = names_at line.head line rows (last_names (line.args ∷ rows) earlier)

-- the fault of a row after these rows, under so many fan-ins
abbrev pub row_fault_after : ℕ → List (List (List ℕ)) → List (List ℕ) → Option ReadKind
row_fault_after width rows tokens =
    guard (not (is_row width tokens)) kind.BadRow
    or_else guard (is_mixed rows tokens) kind.MixedCover

-- the fault of a row under this `.names` with its rows
abbrev pub row_fault : Option (Line × List (List (List ℕ))) → List (List ℕ) → Option ReadKind
row_fault None tokens = Some kind.StrayRow
row_fault (Some names) tokens = row_fault_after (length (but_last names.0.args)) names.1 tokens

abbrev pub row_line_fault : List Line → List (List ℕ) → Option ReadKind
row_line_fault model tokens = guard (is_empty model) kind.NoModel or_else row_fault (last_names [] model) tokens

abbrev pub is_model_head : Head → Bool
is_model_head head.Model = true
is_model_head h = false

-- what is looked at before a word's own kinds
abbrev pub gate : Bool → Head → List (List ℕ) → Option ReadKind
gate none h args =
    guard (none && not (is_model_head h)) kind.NoModel
    or_else guard (not (count_fits h (length args))) kind.BadCount
    or_else guard (list_any is_long args) kind.NameTooLong

-- one of the names stands among those before it
abbrev pub repeats : List (List ℕ) → List (List ℕ) → Bool
repeats sofar [] = false
repeats sofar (name ∷ names) = is_among sofar name || repeats (sofar ++ name ∷ []) names

-- something stands before the first `=` and after it; where none stands, nothing is after it
abbrev pub is_pair : List ℕ → Bool
is_pair token = not (is_empty (before_first is_equals token)) && not (is_empty (after_first is_equals token))

-- types of latches that no edge clocks
abbrev pub level_types : List (List ℕ)
level_types = codes "ah" ∷ codes "al" ∷ codes "as" ∷ []

abbrev pub edge_types : List (List ℕ)
edge_types = codes "re" ∷ codes "fe" ∷ []

abbrev pub init_words : List (List ℕ)
init_words = codes "0" ∷ codes "1" ∷ codes "2" ∷ codes "3" ∷ []

abbrev pub type_fault : List ℕ → Option ReadKind
type_fault word =
    guard (is_among level_types word) (kind.Unsupported word)
    or_else guard (not (is_among edge_types word)) kind.BadLatchType

abbrev pub init_fault : List ℕ → Option ReadKind
init_fault word = guard (not (is_among init_words word)) kind.BadInit

abbrev pub latch_fault : List (List ℕ) → Option ReadKind
latch_fault (input ∷ output ∷ start ∷ []) = init_fault start
latch_fault (input ∷ output ∷ kind ∷ control ∷ []) = type_fault kind
latch_fault (input ∷ output ∷ kind ∷ control ∷ start ∷ []) = type_fault kind or_else init_fault start
latch_fault tokens = None

-- a word's own kinds, after the lines before and, of these, those of its model
abbrev pub own_fault : List Line → List Line → Head → List (List ℕ) → Option ReadKind
own_fault before model head.Model args = guard (repeats (names_on head.Model before) args) kind.DuplicateModel
own_fault before model head.Inputs args = guard (repeats (names_on head.Inputs model) args) kind.DuplicatePort
own_fault before model head.Outputs args = guard (repeats (names_on head.Outputs model) args) kind.DuplicatePort
own_fault before model head.Latch args = latch_fault args
own_fault before model head.Subckt args = guard (not (list_all is_pair (rest_of args))) kind.BadPair
own_fault before model h args = None

abbrev pub word_fault : List Line → List Line → Head → List (List ℕ) → Option ReadKind
word_fault before model h args = gate (is_empty model) h args or_else own_fault before model h args

abbrev pub head_fault : List Line → List Line → Head → Line → Option ReadKind
head_fault before model head.Row line = row_line_fault model line.args
head_fault before model head.Unsupported line = Some (kind.Unsupported line.word)
head_fault before model head.Unknown line = Some kind.UnknownWord
head_fault before model h line = word_fault before model h line.args

-- the first kind that holds of the line
unfoldable pub fault_of : List Line → Line → Option ReadKind
fault_of before line =
    guard (list_any is_control line.word || list_any (list_any is_control) line.args) kind.ControlByte
    or_else head_fault before (open_model before) line.head line
