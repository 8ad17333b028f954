-- What is wrong with a whole file, but for loops.
use Rattle.std.specs.Prelude.{ℕ, ◌||◌, not, List, [], ◌++◌, Option}
use Rattle.circuit_theory.specs.Interface.{◌or_else◌}
use Rattle.aiger_read.specs.declared.aiger_records.error.AigerKind.{AigerKind}
use Rattle.aiger_read.specs.declared.aiger_records.error.AigerKind.TheVariants as kind
use Rattle.aiger_read.specs.aiger_records.Headers.{guard}
use Rattle.aiger_read.specs.aiger_records.Driven.{all_driven}
use Rattle.aiger_read.specs.aiger_file.Names.{names_from, repeats}
use Rattle.aiger_read.specs.declared.aiger_file.file.AigerFile.{AigerFile}

-- the names of inputs and latches
abbrev pub source_names : AigerFile → List (List ℕ)
source_names f = names_from f.symbols 105 f.header.inputs 0 ++ names_from f.symbols 108 f.header.latches 0

abbrev pub output_names : AigerFile → List (List ℕ)
output_names f = names_from f.symbols 111 f.header.outputs 0

-- what is wrong with a whole file, but for loops
abbrev pub file_fault : AigerFile → Option AigerKind
file_fault f =
    guard (not (all_driven f.records)) kind.Undriven
    or_else guard (repeats [] (source_names f) || repeats [] (output_names f)) kind.DuplicateName
