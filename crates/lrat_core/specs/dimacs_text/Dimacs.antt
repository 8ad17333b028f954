-- The clauses that a DIMACS text spells, or its first fault.
use Rattle.std.specs.Prelude.{ℕ, suc, ◌+◌, ◌==◌, ◌&&◌, nat_lt, nat_le, Bool, not, if◌then◌else◌, List, [], ◌∷◌, Option, Some, None, Result, Ok, Err, codes, bytes_eq}
use Rattle.text_numbers.specs.Lines.{lines_of, tokens_of, is_passed_over}
use Rattle.text_numbers.specs.Numbers.{number_of, behind}
use Rattle.text_numbers.specs.declared.numbers.Number.{Number}
use Rattle.text_numbers.specs.declared.kinds.TextError.{TextError}
use Rattle.text_numbers.specs.declared.kinds.TextError.TheVariants.{At}
use Rattle.text_numbers.specs.declared.kinds.TextKind.TheVariants.{BadHeader, BadNumber, BadCount}
use Rattle.lrat_core.specs.declared.dimacs_text.formula.TheConstants.{MAX_COUNT}
use Rattle.lrat_core.specs.dimacs_text.Formulas.{Formula}
use Rattle.lrat_core.specs.declared.dimacs_text.counts.Header.{Header}
use Rattle.lrat_core.specs.declared.dimacs_text.entries.Entry.{Entry}
use Rattle.lrat_core.specs.dimacs_text.Entries.{entries_of, ends, is_open, clauses_from}

-- the number as a count, where it is at most 2^30
abbrev pub counted : Option Number → Option ℕ
counted None = None
counted (Some n) = if not n.is_negative && nat_le n.size MAX_COUNT then Some n.size else None

abbrev pub count_of : List ℕ → Option ℕ
count_of token = counted (number_of token)

abbrev pub header_from : Option ℕ → Option ℕ → Option Header
header_from (Some variables) (Some clauses) = Some (record { variables = variables; clauses = clauses })
header_from variables clauses = None

-- the header `p cnf V C`
abbrev pub header_of : List (List ℕ) → Option Header
header_of (p ∷ cnf ∷ variables ∷ clauses ∷ []) = if bytes_eq p (codes "p") && bytes_eq cnf (codes "cnf") then header_from (count_of variables) (count_of clauses) else None
header_of tokens = None

-- how many clauses begin in the entries
abbrev pub begun : List Entry → ℕ
begun entries = if is_open entries then ends entries + 1 else ends entries

-- more clauses begin than the header tells
abbrev pub is_past : ℕ → List Entry → Bool
is_past clauses entries = nat_lt clauses (begun entries)

-- the entries up to a line, after those before it; none where a token of it spells none
abbrev pub line_entries : ℕ → List Entry → List ℕ → Option (List Entry)
line_entries limit before line = if is_passed_over (tokens_of line) then Some before else behind before (entries_of limit (tokens_of line))

-- after the last line: as many clauses have ended as the header tells, and none is open
abbrev pub end_of : Header → List Entry → Result Formula TextError
end_of header entries =
    if (ends entries == header.clauses) && not (is_open entries) then Ok (record { variables = header.variables; clauses = clauses_from [] entries }) else Err (At 0 BadCount)

-- what follows on a line: a fault of it, or what the later lines give
abbrev pub line_then : Header → ℕ → Option (List Entry) → (List Entry → Result Formula TextError) → Result Formula TextError
line_then header number None later = Err (At number BadNumber)
line_then header number (Some entries) later = if is_past header.clauses entries then Err (At number BadCount) else later entries

-- what the lines from this number on give, after the header and these entries
abbrev pub body_from : Header → List Entry → ℕ → List (List ℕ) → Result Formula TextError
body_from header entries number [] = end_of header entries
body_from header entries number (line ∷ lines) = line_then header number (line_entries header.variables entries line) (λ es. body_from header es (suc number) lines)

-- what the lines give where the first of them is to be the header
abbrev pub header_then : Option Header → ℕ → List (List ℕ) → Result Formula TextError
header_then None number lines = Err (At number BadHeader)
header_then (Some header) number lines = body_from header [] (suc number) lines

-- what the lines from this number on give, before the header
abbrev pub formula_from : ℕ → List (List ℕ) → Result Formula TextError
formula_from number [] = Err (At 0 BadHeader)
formula_from number (line ∷ lines) = if is_passed_over (tokens_of line) then formula_from (suc number) lines else header_then (header_of (tokens_of line)) number lines

-- the clauses that the text spells, or the first faulty line with its kind
abbrev pub formula_of : List ℕ → Result Formula TextError
formula_of text = formula_from 1 (lines_of text)
