-- What a file spells, and its first fault.
use Rattle.std.specs.Prelude.{◌≡◌, ℕ, zero, suc, ◌+◌, List, [], ◌∷◌, ◌++◌, map, Option, Some, None, option_map, option_and_then, codes, refl}
use Rattle.circuit_theory.specs.Interface.{◌or_else◌}
use Rattle.aiger_read.specs.declared.aiger_records.header.Header.{Header}
use Rattle.aiger_read.specs.declared.aiger_records.record.Record.{Record}
use Rattle.aiger_read.specs.declared.aiger_records.error.AigerKind.{AigerKind}
use Rattle.aiger_read.specs.declared.aiger_records.error.AigerKind.TheVariants as kind
use Rattle.aiger_read.specs.declared.aiger_file.file.AigerFile.{AigerFile}
use Rattle.aiger_read.specs.declared.aiger_file.symbol.Named.{Named}
use Rattle.aiger_read.specs.aiger_records.Headers.{header_of, header_fault}
use Rattle.aiger_read.specs.aiger_records.Lines.{Cut, first_line}
use Rattle.aiger_read.specs.aiger_records.Records.{Taken, record_at, body_length, implied}
use Rattle.aiger_read.specs.aiger_records.Faults.{fault_of}
use Rattle.aiger_read.specs.aiger_file.Symbols.{Symbol, symbols_of, symbol_of, symbol_fault}

-- the place of a record, and what is wrong with it
pub record FaultAt : Type 0 where
  pub place : ℕ
  pub kind : AigerKind

abbrev pub at : ℕ → AigerKind → FaultAt
at place k = record { place = place; kind = k }

-- the fault of a record, or a later one
abbrev pub fault_at : ℕ → Option AigerKind → Option FaultAt → Option FaultAt
fault_at place None later = later
fault_at place (Some k) later = Some (at place k)

-- the records of a body, and what stands behind it; None stands for one that is cut off or not of its form
pub record Body : Type 0 where
  pub records : List (Option Record)
  pub after : List ℕ

abbrev pub put_record : Record → Body → Body
put_record r body = record { records = Some r ∷ body.records; after = body.after }

-- a body ends at a record that is cut off or not of its form
abbrev pub body_with : Option Taken → (Taken → Body) → Body
body_with None rest = record { records = None ∷ []; after = [] }
body_with (Some taken) rest = put_record taken.found (rest taken)

-- so many records from record k on
abbrev pub body_from : Header → ℕ → ℕ → List ℕ → Body
body_from h zero k text = record { records = []; after = text }
body_from h (suc n) k text = body_with (record_at h k text) (λ taken. body_from h n (k + 1) taken.after)

unfoldable pub body_of : Header → List ℕ → Body
body_of h text = body_from h (body_length h) 0 text

-- the first faulty record of a body, the first of which has this place, after these records
abbrev pub first_fault_after : Header → ℕ → List Record → List (Option Record) → Option FaultAt
first_fault_after h place before [] = None
first_fault_after h place before (None ∷ records) = Some (at place kind.BadLine)
first_fault_after h place before (Some r ∷ records) = fault_at place (fault_of h before r) (first_fault_after h (place + 1) (before ++ r ∷ []) records)

-- the same of a whole body, after the inputs that have no record
abbrev pub records_fault : Header → List (Option Record) → Option FaultAt
records_fault h records = first_fault_after h 1 (implied h.form h.inputs) records

-- the first faulty symbol, the first of which is this record, after those with these keys
abbrev pub first_symbol_fault : Header → ℕ → List (List ℕ) → List (Option Symbol) → Option FaultAt
first_symbol_fault h place keys [] = None
first_symbol_fault h place keys (None ∷ symbols) = Some (at place kind.BadLine)
first_symbol_fault h place keys (Some s ∷ symbols) = fault_at place (symbol_fault h keys s) (first_symbol_fault h (place + 1) (keys ++ s.key ∷ []) symbols)

abbrev pub body_fault : Header → Body → Option FaultAt
body_fault h body =
    records_fault h body.records
    or_else first_symbol_fault h (body_length h + 1) [] (symbols_of body.after)

-- a header, and what stands after its line
pub record Headed : Type 0 where
  pub header : Header
  pub after : List ℕ

abbrev pub headed_by : Cut → Option Headed
headed_by cut = option_map (λ h. record { header = h; after = cut.after }) (header_of cut.before)

-- None where the first line is cut off or no header
abbrev pub headed : List ℕ → Option Headed
headed text = option_and_then headed_by (first_line text)

abbrev pub headed_fault : Option Headed → Option FaultAt
headed_fault None = Some (at 0 kind.BadHeader)
headed_fault (Some file) = fault_at 0 (header_fault file.header) (body_fault file.header (body_of file.header file.after))

-- the first record with a fault, and its first kind
abbrev pub first_fault : List ℕ → Option FaultAt
first_fault text = headed_fault (headed text)

-- those that are there
abbrev pub those_there : {X : Type 0} → List (Option X) → List X
those_there [] = []
those_there (None ∷ xs) = those_there xs
those_there (Some x ∷ xs) = x ∷ those_there xs

abbrev pub named_by : List Symbol → Named
named_by symbols = record { keys = map (λ s. s.key) symbols; names = map (λ s. s.name) symbols }

abbrev pub file_with : Header → Body → AigerFile
file_with h body = record { header = h; records = implied h.form h.inputs ++ those_there body.records; symbols = named_by (those_there (symbols_of body.after)) }

-- the file that a text spells, if it has a header
abbrev pub spelled : List ℕ → Option AigerFile
spelled text = option_map (λ file. file_with file.header (body_of file.header file.after)) (headed text)

-- and
and_is_sound : first_fault (codes "aag 3 2 0 1 1\n2\n4\n6\n6 2 4\ni0 a\ni1 b\no0 y\n") ≡ None
unfolding body_of record_at fault_of header_of symbol_of
and_is_sound = refl

-- the same in the binary form
binary_is_sound : first_fault (codes "aig 3 2 0 1 1\n6\n" ++ 2 ∷ 2 ∷ codes "i0 a\ni1 b\no0 y\n") ≡ None
unfolding body_of record_at fault_of header_of symbol_of
binary_is_sound = refl

-- cut after the first byte of its gate
cut_gate : first_fault (codes "aig 3 2 0 1 1\n6\n" ++ 2 ∷ []) ≡ Some (at 2 kind.BadLine)
unfolding body_of record_at fault_of header_of symbol_of
cut_gate = refl

-- a latch with a reset of its own is uninitialised; a second driver
resets : first_fault (codes "aag 2 0 2 0 0\n2 4 2\n4 3 5\n") ≡ Some (at 2 kind.BadReset)
unfolding body_of record_at fault_of header_of symbol_of
resets = refl

two_drivers : first_fault (codes "aag 2 1 1 0 0\n2\n2 0\n") ≡ Some (at 2 kind.TwoDrivers)
unfolding body_of record_at fault_of header_of symbol_of
two_drivers = refl

-- a symbol twice, with the place behind the body
twice : first_fault (codes "aag 1 1 0 0 0\n2\ni0 a\ni0 b\n") ≡ Some (at 3 kind.BadSymbol)
unfolding body_of record_at fault_of header_of symbol_of
twice = refl

no_header : first_fault (codes "aag 1 1 0 0 0") ≡ Some (at 0 kind.BadHeader)
unfolding body_of record_at fault_of header_of symbol_of
no_header = refl
