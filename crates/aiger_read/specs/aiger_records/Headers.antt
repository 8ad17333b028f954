-- The header of a file.
use Rattle.std.specs.Prelude.{◌≡◌, ℕ, ◌+◌, ◌==◌, nat_le, nat_lt, ◌&&◌, ◌||◌, not, Bool, true, false, if◌then◌else◌, List, [], ◌∷◌, length, Option, Some, None, option_and_then, codes, bytes_eq, refl}
use Rattle.std.specs.List.{list_all}
use Rattle.circuit_theory.specs.Interface.{◌or_else◌}
use Rattle.aiger_read.specs.declared.aiger_records.header.Form.{Form}
use Rattle.aiger_read.specs.declared.aiger_records.header.Form.TheVariants.{Ascii, Binary}
use Rattle.aiger_read.specs.declared.aiger_records.header.Header.{Header}
use Rattle.aiger_read.specs.declared.aiger_records.error.AigerKind.{AigerKind}
use Rattle.aiger_read.specs.declared.aiger_records.error.AigerKind.TheVariants as kind
use Rattle.aiger_read.specs.aiger_records.Numbers.{numbers, words_of}

abbrev pub guard : Bool → AigerKind → Option AigerKind
guard true k = Some k
guard false k = None

abbrev pub form_of : List ℕ → Option Form
form_of word = if bytes_eq word (codes "aag") then Some Ascii else (if bytes_eq word (codes "aig") then Some Binary else None)

-- whether the greatest variable fits so many inputs, latches and gates
abbrev pub counts_fit : Form → ℕ → ℕ → Bool
counts_fit Ascii greatest count = nat_le count greatest
counts_fit Binary greatest count = count == greatest

-- the header of the numbers M, I, L, O, A and at most four further ones
abbrev pub numbered_header : Form → List ℕ → Option Header
numbered_header form (m ∷ i ∷ l ∷ o ∷ a ∷ further) =
    if nat_le (length further) 4 && counts_fit form m (i + l + a)
    then Some (record { form = form; greatest = m; inputs = i; latches = l; outputs = o; gates = a; plain = list_all (λ n. n == 0) further })
    else None
numbered_header form others = None

abbrev pub header_from : Option Form → Option (List ℕ) → Option Header
header_from None found = None
header_from (Some form) found = option_and_then (numbered_header form) found

abbrev pub header_words : List (List ℕ) → Option Header
header_words [] = None
header_words (word ∷ words) = header_from (form_of word) (numbers words)

-- the header that the line writes, if it is one
unfoldable pub header_of : List ℕ → Option Header
header_of line = header_words (words_of line)

-- the greatest variable, and the most outputs
abbrev pub most : ℕ
most = 400000

-- what is wrong with a header
abbrev pub header_fault : Header → Option AigerKind
header_fault h =
    guard (not h.plain) kind.Properties
    or_else guard (nat_lt most h.greatest || nat_lt most h.outputs) kind.TooMany

header_example : header_of (codes "aag 3 2 0 1 1") ≡ Some (record { form = Ascii; greatest = 3; inputs = 2; latches = 0; outputs = 1; gates = 1; plain = true })
unfolding header_of
header_example = refl

-- in the binary form the greatest variable is the number of inputs, latches and gates
binary_example : header_of (codes "aig 4 2 0 1 1") ≡ None
unfolding header_of
binary_example = refl
