-- What a text loads as, and why it is refused.
use Rattle.std.specs.Prelude.{◌≡◌, ℕ, ◌<◌, ◌≤◌, List, length, Option, Some, None, IfSome}
use Rattle.circuit_theory.specs.Circuit.{Circuit}
use Rattle.sec_base.specs.declared.limits.TheConstants.{MAX_FILE_BYTES}
use Rattle.blif_read.specs.declared.error.ReadKind.{ReadKind}
use Rattle.blif_read.specs.Design.{Place}
use Rattle.blif_read.specs.Reading.{first_fault, spelled}
use Rattle.flat_net.specs.View.{NetView}
use Rattle.elaborate.specs.declared.error.FlatError.{FlatError}
use Rattle.elaborate.specs.declared.error.FlatError.TheVariants as flat_error
use Rattle.flatten.specs.DesignFaults.{DesignFault}
use Rattle.base_shelves.specs.declared.whole_file.FetchError.TheVariants as fetch_error
use Rattle.blif_read.specs.declared.error.ReadError.TheVariants as read_error
use Rattle.aiger_read.specs.declared.aiger_records.error.AigerKind.{AigerKind}
use Rattle.aiger_read.specs.declared.aiger_records.error.AigerError.TheVariants as aiger_error
use Rattle.aiger_read.specs.Nets.{HasFault as HasFaultAt}
use Rattle.job_base.specs.sec_files.Formats.{Format, Blif, Aiger, format_of, circuit_in, IsClockIn, IsReadIn, IsSoundIn, IsNetIn}
use Rattle.job_base.specs.declared.sec_files.loader.LoadError.{LoadError}
use Rattle.job_base.specs.declared.sec_files.loader.LoadError.TheVariants as load_error

-- the circuit that a text spells, where this is its clock net
abbrev pub circuit_of_text : List ℕ → Option (List ℕ) → Circuit Place
circuit_of_text text clock = circuit_in (format_of text) text clock

-- the text spells this circuit: nothing that it reads is faulty, and this is the clock net
pub record SpellsCircuit (text : List ℕ) (clock : Option (List ℕ)) (d : Circuit Place) : Type 0 where
  pub accepted : IsReadIn (format_of text) text
  pub is_clock : IsClockIn (format_of text) text clock
  pub is_circuit : d ≡ circuit_of_text text clock

-- the text, of at most 16,777,216 bytes, has no faulty line and spells a design without a fault; or it has no faulty record, and no gates
-- that read each other in a loop
pub record IsAccepted (text : List ℕ) : Type 0 where
  pub short : length text ≤ MAX_FILE_BYTES
  pub faultless : IsReadIn (format_of text) text
  pub sound : IsSoundIn (format_of text) text

-- the text is accepted, and the net is its circuit's: its runs are the circuit's
pub record Loads (text : List ℕ) (net : NetView) : Type 0 where
  pub accepted : IsAccepted text
  pub flat : IsNetIn (format_of text) text net

-- the text is too long
abbrev pub IsTooLong : List ℕ → Type 0
IsTooLong text = MAX_FILE_BYTES < length text

-- the text, of at most 16,777,216 bytes, is read in this format
abbrev pub IsText : Format → List ℕ → Type 0
IsText format text = (length text ≤ MAX_FILE_BYTES) × (format_of text ≡ format)

-- the text has its first faulty line here
abbrev pub HasFault : List ℕ → ℕ → ReadKind → Type 0
HasFault text line kind = IsText Blif text × (first_fault text ≡ Some (record { line = line; kind = kind }))

-- the text spells a design whose first fault is this one
abbrev pub HasDesignFault : List ℕ → FlatError → Type 0
HasDesignFault text e = IsText Blif text × (first_fault text ≡ None) × DesignFault (spelled text) e

-- the text has its first faulty record here; what is wrong with the whole file is told of record 0
abbrev pub HasRecordFault : List ℕ → ℕ → AigerKind → Type 0
HasRecordFault text place kind = IsText Aiger text × HasFaultAt text place kind

-- the same of what is held, where that is told; nothing is said of want of memory
abbrev pub FlattenFails : Option (List ℕ) → FlatError → Type 0
FlattenFails held flat_error.NoMemory = Unit {0}
FlattenFails held e = IfSome held (λ text. HasDesignFault text e)

-- what is true where the text of a path isn't loaded: `held` is what is held there, `rose` that its count of faults rose
abbrev pub LoadFails : Option (List ℕ) → Type 0 → LoadError → Type 0
LoadFails held rose (load_error.Fetch fetch_error.Failed) = rose
LoadFails held rose (load_error.Fetch fetch_error.TooLong) = IfSome held IsTooLong
LoadFails held rose (load_error.Fetch fetch_error.NoMemory) = Unit {0}
LoadFails held rose (load_error.Read (read_error.At line kind)) = IfSome held (λ text. HasFault text line kind)
LoadFails held rose (load_error.Read read_error.NoMemory) = Unit {0}
LoadFails held rose (load_error.Flat e) = FlattenFails held e
LoadFails held rose (load_error.Aiger (aiger_error.At place kind)) = IfSome held (λ text. HasRecordFault text place kind)
LoadFails held rose (load_error.Aiger aiger_error.NoMemory) = Unit {0}
