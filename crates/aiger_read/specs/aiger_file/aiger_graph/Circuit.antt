-- The circuit of a file. Its places are the literals: an even one is a variable's, and the odd one after it that of its negation.
use Rattle.std.specs.Prelude.{ℕ, ◌+◌, ◌-◌, ◌==◌, Bool, true, false, if◌then◌else◌, List, [], ◌∷◌, ◌++◌, Option, Some, None, codes}
use Rattle.std.specs.List.{filter_map, list_any}
use Rattle.circuit_theory.specs.Cover.{Cover}
use Rattle.circuit_theory.specs.Circuit.{Circuit, Equation, Named as Port, Started, Gate as gate_equation, Latch as latch_equation}
use Rattle.aiger_read.specs.declared.aiger_records.record.Record.{Record}
use Rattle.aiger_read.specs.declared.aiger_records.record.Record.TheVariants.{Input, Latch, Output, Gate, Packed}
use Rattle.aiger_read.specs.aiger_records.Driven.{used_by}
use Rattle.aiger_read.specs.aiger_records.Faults.{defined_by}
use Rattle.aiger_read.specs.declared.aiger_file.symbol.Named.{Named}
use Rattle.aiger_read.specs.aiger_file.Names.{name_of}
use Rattle.aiger_read.specs.declared.aiger_file.file.AigerFile.{AigerFile}

-- and
abbrev pub and_cover : Cover
and_cover = record { width = 2; rows = codes "11" ∷ []; on = true }

-- not
abbrev pub not_cover : Cover
not_cover = record { width = 1; rows = codes "0" ∷ []; on = true }

-- the constants
abbrev pub zero_cover : Cover
zero_cover = record { width = 0; rows = []; on = true }

abbrev pub one_cover : Cover
one_cover = record { width = 0; rows = [] ∷ []; on = true }

-- the literal of an input, of an output
abbrev pub input_of : Record → Option ℕ
input_of (Input literal) = Some literal
input_of r = None

abbrev pub output_of : Record → Option ℕ
output_of (Output literal) = Some literal
output_of r = None

-- a latch: its literal, what it takes over, and its reset
pub record LatchLine : Type 0 where
  pub literal : ℕ
  pub next : ℕ
  pub reset : ℕ

abbrev pub latch_of : Record → Option LatchLine
latch_of (Latch literal next reset) = Some (record { literal = literal; next = next; reset = reset })
latch_of r = None

-- the inputs, outputs and latches in the order of the file
abbrev pub input_literals : List Record → List ℕ
input_literals records = filter_map input_of records

abbrev pub output_literals : List Record → List ℕ
output_literals records = filter_map output_of records

abbrev pub latches_in : List Record → List LatchLine
latches_in records = filter_map latch_of records

-- literals as ports: the names of inputs begin with `i`, those of outputs with `o`
abbrev pub ports_from : Named → ℕ → ℕ → List ℕ → List (Port ℕ)
ports_from symbols letter k [] = []
ports_from symbols letter k (literal ∷ literals) = record { name = name_of symbols letter k; place = literal } ∷ ports_from symbols letter (k + 1) literals

-- the latches, whose names begin with `l`
abbrev pub latches_from : Named → ℕ → List LatchLine → List (Equation ℕ)
latches_from symbols k [] = []
latches_from symbols k (l ∷ ls) = latch_equation (name_of symbols 108 k) l.literal l.next ∷ latches_from symbols (k + 1) ls

-- the gate of a record, if it is one
abbrev pub gate_of : Record → List (Equation ℕ)
gate_of (Gate literal left right) = gate_equation literal (left ∷ right ∷ []) and_cover ∷ []
gate_of (Packed literal first second) = gate_equation literal ((literal - first) ∷ (literal - first - second) ∷ []) and_cover ∷ []
gate_of r = []

-- whether one of the records reads the literal
abbrev pub is_used : List Record → ℕ → Bool
is_used records literal = list_any (λ r. list_any (λ u. u == literal) (used_by r)) records

-- the negation of a variable, where one of the file's records reads it
abbrev pub inverter_of : List Record → Option ℕ → List (Equation ℕ)
inverter_of file None = []
inverter_of file (Some literal) = if is_used file (literal + 1) then gate_equation (literal + 1) (literal ∷ []) not_cover ∷ [] else []

-- the gates that these records of the file make
abbrev pub gates_of : List Record → List Record → List (Equation ℕ)
gates_of file [] = []
gates_of file (r ∷ rs) = gate_of r ++ inverter_of file (defined_by r) ++ gates_of file rs

abbrev pub gates_in : List Record → List (Equation ℕ)
gates_in records = gates_of records records

-- the literals 0 and 1
abbrev pub constants : List (Equation ℕ)
constants = gate_equation 0 [] zero_cover ∷ gate_equation 1 [] one_cover ∷ []

-- the initial value of a latch that is reset to 0 or 1
abbrev pub start_of : LatchLine → Option (Started ℕ)
start_of l =
    if l.reset == 0 then Some (record { place = l.literal; bit = false }) else
    (if l.reset == 1 then Some (record { place = l.literal; bit = true }) else None)

-- The circuit of a file: its runs are those of the file.
abbrev pub circuit_of_file : AigerFile → Circuit ℕ
circuit_of_file f = record {
  inputs = ports_from f.symbols 105 0 (input_literals f.records);
  outputs = ports_from f.symbols 111 0 (output_literals f.records);
  equations = constants ++ gates_in f.records ++ latches_from f.symbols 0 (latches_in f.records);
  starts = filter_map start_of (latches_in f.records);
}
