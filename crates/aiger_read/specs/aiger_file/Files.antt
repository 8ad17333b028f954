-- The file that a text spells, without what is wrong with a whole file.
use Rattle.std.specs.Prelude.{◌≡◌, ℕ, List, Option, Some, None, option_map, option_and_then, Result, Ok, Err, All, false, length}
use Rattle.circuit_theory.specs.Interface.{◌or_else◌}
use Rattle.aiger_read.specs.declared.aiger_file.file.AigerFile.{AigerFile}
use Rattle.aiger_read.specs.declared.aiger_records.error.AigerError.{AigerError}
use Rattle.aiger_read.specs.declared.aiger_records.error.AigerError.TheVariants as aiger
use Rattle.aiger_read.specs.aiger_file.Reading.{FaultAt, at, first_fault, spelled}
use Rattle.aiger_read.specs.aiger_records.Faults.{IsSmall, has_bad_literal, DefinesOnce}
use Rattle.aiger_read.specs.aiger_file.Whole.{file_fault}

-- a fault of a whole file has record 0
abbrev pub late_fault : AigerFile → Option FaultAt
late_fault f = option_map (at 0) (file_fault f)

-- what each file without a fault keeps
pub record IsKept (f : AigerFile) : Type 0 where
  pub small : IsSmall f.header
  pub good : All (λ r. has_bad_literal f.header r ≡ false) f.records
  pub once : DefinesOnce f.records
  pub keyed : length f.symbols.keys ≡ length f.symbols.names

-- the first record with a fault, or what is wrong with the whole file, but for loops
abbrev pub fault_of_text : List ℕ → Option FaultAt
fault_of_text text = first_fault text or_else option_and_then late_fault (spelled text)

-- Ok is the file that the text spells, and a refusal is its first fault
abbrev pub ReadsFile : List ℕ → Result AigerFile AigerError → Type 0
ReadsFile text (Ok file) = (fault_of_text text ≡ None) × (spelled text ≡ Some file)
ReadsFile text (Err aiger.NoMemory) = Unit {0}
ReadsFile text (Err (aiger.At place kind)) = fault_of_text text ≡ Some (at place kind)
