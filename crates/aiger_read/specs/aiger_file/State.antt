-- What a step of the reader says.
use Rattle.std.specs.Prelude.{◌≡◌, ℕ, List, [], ◌++◌, map, Option, Some, None, Result, Ok, Err}
use Rattle.aiger_read.specs.declared.aiger_records.header.Header.{Header}
use Rattle.aiger_read.specs.declared.aiger_records.record.Record.{Record}
use Rattle.aiger_read.specs.declared.aiger_records.error.AigerError.{AigerError}
use Rattle.aiger_read.specs.declared.aiger_records.error.AigerError.TheVariants as aiger
use Rattle.aiger_read.specs.declared.aiger_records.error.Stop.{Stop}
use Rattle.aiger_read.specs.declared.aiger_records.error.Stop.TheVariants as stop
use Rattle.aiger_read.specs.declared.aiger_file.reader.ReadSoFar.{ReadSoFar}
use Rattle.aiger_read.specs.declared.aiger_file.reader.Headed.{Headed}
use Rattle.aiger_read.specs.declared.aiger_file.symbol.Named.{Named}
use Rattle.aiger_read.specs.aiger_records.Faults.{IsSmall}
use Rattle.aiger_read.specs.aiger_records.Records.{implied}
use Rattle.aiger_read.specs.aiger_records.Headers.{header_fault}
use Rattle.aiger_read.specs.aiger_file.Symbols.{Symbol, symbols_of}
use Rattle.aiger_read.specs.aiger_file.Reading.{FaultAt, at, Body, records_fault, first_fault_after, first_symbol_fault, those_there, named_by, headed, headed_fault}

-- the refusal of the record at this place
abbrev pub refusal_at : ℕ → Stop → AigerError
refusal_at place stop.NoMemory = aiger.NoMemory
refusal_at place (stop.Fault kind) = aiger.At place kind

-- the error is the fault
abbrev pub Refuses : Option FaultAt → AigerError → Type 0
Refuses fault aiger.NoMemory = Unit {0}
Refuses fault (aiger.At place kind) = fault ≡ Some (at place kind)

-- the whole of a body, where these records were taken and this is left, from the record at this place on
pub record BodyTo (h : Header) (whole left : Body) (place : ℕ) (before : List Record) : Type 0 where
  pub fault : records_fault h whole.records ≡ first_fault_after h place before left.records
  pub records : implied h.form h.inputs ++ those_there whole.records ≡ before ++ those_there left.records
  pub after : whole.after ≡ left.after

-- all symbols, the first of which is the record `place`, where these were taken and the others are left
pub record SymbolsTo (h : Header) (place : ℕ) (whole left : List (Option Symbol)) (next : ℕ) (before : Named) : Type 0 where
  pub fault : first_symbol_fault h place [] whole ≡ first_symbol_fault h next before.keys left
  pub keys : map (λ s. s.key) (those_there whole) ≡ before.keys ++ map (λ s. s.key) (those_there left)
  pub names : map (λ s. s.name) (those_there whole) ≡ before.names ++ map (λ s. s.name) (those_there left)

abbrev pub ReadBody : Header → Body → Result ReadSoFar AigerError → Type 0
ReadBody h body (Ok read) = (records_fault h body.records ≡ None) × (read.defined.header ≡ h) × (read.defined.records ≡ implied h.form h.inputs ++ those_there body.records) × (read.after.now ≡ body.after)
ReadBody h body (Err e) = Refuses (records_fault h body.records) e

abbrev pub ReadSymbols : Header → ℕ → List ℕ → Result Named AigerError → Type 0
ReadSymbols h place text (Ok symbols) = (first_symbol_fault h place [] (symbols_of text) ≡ None) × (symbols ≡ named_by (those_there (symbols_of text)))
ReadSymbols h place text (Err e) = Refuses (first_symbol_fault h place [] (symbols_of text)) e

abbrev pub ReadHeader : List ℕ → Result Headed AigerError → Type 0
ReadHeader text (Ok file) = (headed text ≡ Some (record { header = file.header; after = file.after.now })) × (header_fault file.header ≡ None) × IsSmall file.header
ReadHeader text (Err e) = Refuses (headed_fault (headed text)) e
