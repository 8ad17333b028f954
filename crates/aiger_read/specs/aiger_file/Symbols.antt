-- The symbols behind the body of a file.
use Rattle.std.specs.Prelude.{◌≡◌, ℕ, ◌==◌, nat_le, nat_lt, ◌||◌, not, Bool, true, false, if◌then◌else◌, List, [], ◌∷◌, length, Option, Some, None, option_and_then, codes, refl}
use Rattle.std.specs.List.{list_any, slice_split}
use Rattle.base_tables.specs.Table.{is_among}
use Rattle.aiger_read.specs.declared.aiger_records.header.Header.{Header}
use Rattle.aiger_read.specs.declared.aiger_records.record.Section.{Section}
use Rattle.aiger_read.specs.declared.aiger_records.record.Section.TheVariants as section
use Rattle.aiger_read.specs.declared.aiger_records.error.AigerKind.{AigerKind}
use Rattle.aiger_read.specs.declared.aiger_records.error.AigerKind.TheVariants as kind
use Rattle.aiger_read.specs.aiger_records.Headers.{guard}
use Rattle.aiger_read.specs.aiger_records.Lines.{Cut, cut_at, is_line_feed}
use Rattle.aiger_read.specs.aiger_records.Numbers.{is_blank, number_of}

-- The name of an input, a latch or an output, counted from 0. The key is the word before it, which tells what it names.
pub record Symbol : Type 0 where
  pub section : Section
  pub number : ℕ
  pub key : List ℕ
  pub name : List ℕ

abbrev pub the_symbol : Section → ℕ → List ℕ → List ℕ → Symbol
the_symbol s n key name = record { section = s; number = n; key = key; name = name }

abbrev pub section_named : ℕ → Option Section
section_named letter =
    if letter == 105 then Some section.Input else
    (if letter == 108 then Some section.Latch else
    (if letter == 111 then Some section.Output else None))

abbrev pub symbol_with : List ℕ → List ℕ → Option Section → Option ℕ → Option Symbol
symbol_with key name None number = None
symbol_with key name (Some s) None = None
symbol_with key name (Some s) (Some n) = Some (the_symbol s n key name)

-- a letter and a number, and a name
abbrev pub symbol_parted : List ℕ → List ℕ → Option Symbol
symbol_parted [] name = None
symbol_parted (letter ∷ digits) name = symbol_with (letter ∷ digits) name (section_named letter) (number_of digits)

-- the symbol of a line, whose first blank ends the key; None where the line isn't of the form
unfoldable pub symbol_of : List ℕ → Option Symbol
symbol_of line = option_and_then (λ (cut : Cut). symbol_parted cut.before cut.after) (cut_at is_blank line)

-- the text ends, or begins with a `c`
abbrev pub is_end : List ℕ → Bool
is_end [] = true
is_end (byte ∷ text) = byte == 99

abbrev pub is_comment : List ℕ → Bool
is_comment [] = false
is_comment (byte ∷ text) = byte == 99

-- the symbols of the pieces between line feeds, up to a comment; None where one is cut off or not of its form
abbrev pub symbols_in : List (List ℕ) → List (Option Symbol)
symbols_in [] = []
symbols_in (last ∷ []) = if is_end last then [] else None ∷ []
symbols_in (line ∷ next ∷ lines) = if is_comment line then [] else symbol_of line ∷ symbols_in (next ∷ lines)

abbrev pub symbols_of : List ℕ → List (Option Symbol)
symbols_of text = symbols_in (slice_split is_line_feed text)

-- how many of its kind the header tells
abbrev pub count_of : Header → Section → ℕ
count_of h section.Input = h.inputs
count_of h section.Latch = h.latches
count_of h section.Output = h.outputs
count_of h section.Gate = 0

-- a byte that a name may not have
abbrev pub is_bad_byte : ℕ → Bool
is_bad_byte b = nat_le b 32 || (b == 127) || (b == 35)

abbrev pub is_bad_name : List ℕ → Bool
is_bad_name name = (length name == 0) || nat_lt 4096 (length name) || list_any is_bad_byte name

-- what is wrong with a symbol, after those with these keys
abbrev pub symbol_fault : Header → List (List ℕ) → Symbol → Option AigerKind
symbol_fault h keys s =
    guard (not (nat_lt s.number (count_of h s.section)) || is_among keys s.key || is_bad_name s.name) kind.BadSymbol

symbols_example : symbols_of (codes "i0 a\no12 y z\ni01 b\ni1\nc\nmore") ≡
    Some (the_symbol section.Input 0 (codes "i0") (codes "a"))
    ∷ Some (the_symbol section.Output 12 (codes "o12") (codes "y z"))
    ∷ None ∷ None ∷ []
unfolding symbol_of
symbols_example = refl

cut_off_example : symbols_of (codes "i0 a") ≡ None ∷ []
unfolding symbol_of
cut_off_example = refl
