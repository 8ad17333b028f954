-- The net that a file is read as.
use Rattle.std.specs.Prelude.{◌≡◌, ℕ, ◌<◌, List, [], ◌∷◌, ◌++◌, map, length, slice_get, Option, Some, None, Result, Ok, Err, true, false, unwrap_or, codes, refl}
use Rattle.std.specs.List.{Contains}
use Rattle.std.specs.Fmt.{digits}
use Rattle.circuit_theory.specs.Circuit.{Circuit, Equation, IsInput, out_of, Gate as gate, Latch as latch}
use Rattle.circuit_theory.specs.Flattened.{IsFlattened}
use Rattle.circuit_theory.specs.Places.{IsPlace}
use Rattle.net_assembly.specs.net_alike.FlatCircuit.{IsFlatCircuit}
use Rattle.base_tables.specs.Table.{AreDistinct}
use Rattle.flat_net.specs.declared.parts.LatchAt.{LatchAt}
use Rattle.flat_net.specs.View.{NetView, circuit_of}
use Rattle.flat_net.specs.Sound.{IsSound}
use Rattle.flat_net.specs.Comparable.{IsComparable}
use Rattle.aiger_read.specs.declared.aiger_records.header.Form.TheVariants.{Ascii}
use Rattle.aiger_read.specs.declared.aiger_records.error.AigerError.{AigerError}
use Rattle.aiger_read.specs.declared.aiger_records.error.AigerError.TheVariants as aiger
use Rattle.aiger_read.specs.declared.aiger_records.error.AigerKind.{AigerKind}
use Rattle.aiger_read.specs.declared.aiger_records.error.AigerKind.TheVariants as kind
use Rattle.aiger_read.specs.aiger_records.Headers.{header_of}
use Rattle.aiger_read.specs.aiger_records.Records.{record_at}
use Rattle.aiger_read.specs.aiger_file.Symbols.{symbol_of}
use Rattle.aiger_read.specs.declared.aiger_file.file.AigerFile.{AigerFile}
use Rattle.aiger_read.specs.aiger_file.Reading.{spelled, at, body_of}
use Rattle.aiger_read.specs.aiger_file.Whole.{file_fault}
use Rattle.aiger_read.specs.aiger_file.Files.{fault_of_text}
use Rattle.aiger_read.specs.aiger_file.aiger_graph.Circuit.{circuit_of_file, constants, not_cover}
use Rattle.aiger_read.specs.aiger_file.aiger_graph.Loops.{HasLoop}
use Rattle.aiger_read.specs.SignalNames.{signal_name, inits_of}

-- each place is driven by one equation at most, counted by its place in the list, and the inputs by none
pub record IsDrivenOnce (d : Circuit ℕ) : Type 0 where
  pub once : AreDistinct (map out_of d.equations)
  pub no_input : (e : Equation ℕ) → Contains d.equations e → IsInput d (out_of e) → ⊥

-- The net is the file's: its circuit is the file's circuit, each literal p read as the signal `signal p`, and has its runs, with
-- inputs, outputs and latches in the order of the file. `origin` is the literal that a signal stands for, whose name it has. Each
-- latch has its initial value. Each literal is driven once, and the net keeps what each net keeps. It has no clock, no output name
-- stands twice, and there are few ports and latches.
pub record IsNetOf (f : AigerFile) (net : NetView) : Type 0 where
  pub clock : net.clock ≡ None
  pub once : IsDrivenOnce (circuit_of_file f)
  pub origin : ℕ → ℕ
  pub signal : ℕ → ℕ
  pub circuit : IsFlatCircuit (circuit_of_file f) (circuit_of net) (length net.drivers) (λ p. ⊥) origin signal
  pub sound : IsSound net
  pub flattened : IsFlattened (circuit_of_file f) (circuit_of net) (length net.drivers) (λ p. ⊥) (IsPlace (circuit_of_file f)) origin
  pub names : (s : ℕ) → s < length net.drivers → slice_get net.names s ≡ Some (signal_name f (origin s))
  pub inits : map (λ (l : LatchAt). l.init) net.latches ≡ inits_of f
  pub comparable : IsComparable net

-- the text spells this file, and nothing is wrong with it
pub record SpellsFile (text : List ℕ) (f : AigerFile) : Type 0 where
  pub faultless : fault_of_text text ≡ None
  pub is_file : spelled text ≡ Some f
  pub no_loop : HasLoop f → ⊥

-- the text spells this file, with nothing wrong but that its gates read each other in a loop
pub record SpellsLoop (text : List ℕ) (f : AigerFile) : Type 0 where
  pub faultless : fault_of_text text ≡ None
  pub is_file : spelled text ≡ Some f
  pub loop : HasLoop f

-- The first fault of a text: that of a record, counted from 0, or of the whole file, as record 0; at last, that its gates read
-- each other in a loop.
pub data HasFault (text : List ℕ) : ℕ → AigerKind → Type 0 where
  early : {place : ℕ} {k : AigerKind} → fault_of_text text ≡ Some (at place k) → HasFault text place k
  looped : {f : AigerFile} → SpellsLoop text f → HasFault text 0 kind.Loop

-- Ok is a net of the file that the text spells; a refusal is the text's first fault, and nothing is said of want of memory.
abbrev pub ReadsNet : List ℕ → Result NetView AigerError → Type 0
ReadsNet text (Ok net) = (f : AigerFile) × SpellsFile text f × IsNetOf f net
ReadsNet text (Err aiger.NoMemory) = Unit {0}
ReadsNet text (Err (aiger.At place k)) = HasFault text place k

abbrev pub fault_behind : Option AigerFile → Option AigerKind
fault_behind None = None
fault_behind (Some f) = file_fault f

-- two inputs of one name
same_names : fault_behind (spelled (codes "aag 3 2 0 1 1\n2\n4\n6\n6 2 4\ni0 b\ni1 b\n")) ≡ Some kind.DuplicateName
unfolding body_of record_at header_of symbol_of digits
same_names = refl

-- a name that another input has without a symbol
made_name : fault_behind (spelled (codes "aag 2 2 0 0 0\n2\n4\ni0 i1\n")) ≡ Some kind.DuplicateName
unfolding body_of record_at header_of symbol_of digits
made_name = refl

-- variable 2 isn't defined
undriven : fault_behind (spelled (codes "aag 3 1 0 1 1\n2\n6\n6 2 5\n")) ≡ Some kind.Undriven
unfolding body_of record_at header_of symbol_of digits
undriven = refl

-- what stands where a text spells no file
abbrev no_file : AigerFile
no_file = record { header = record { form = Ascii; greatest = 0; inputs = 0; latches = 0; outputs = 0; gates = 0; plain = true }; records = []; symbols = record { keys = []; names = [] } }

-- a latch that toggles, and its circuit
toggle : circuit_of_file (unwrap_or (spelled (codes "aig 1 0 1 1 0\n3\n2\nl0 q\n")) no_file) ≡ record {
  inputs = [];
  outputs = record { name = codes "o0"; place = 2 } ∷ [];
  equations = constants ++ gate 3 (2 ∷ []) not_cover ∷ latch (codes "q") 2 3 ∷ [];
  starts = record { place = 2; bit = false } ∷ [];
}
unfolding body_of record_at header_of symbol_of digits
toggle = refl

-- two inputs, of which the output reads one, negated: the other has no inverter
one_read : circuit_of_file (unwrap_or (spelled (codes "aag 2 2 0 1 0\n2\n4\n3\n")) no_file) ≡ record {
  inputs = record { name = codes "i0"; place = 2 } ∷ record { name = codes "i1"; place = 4 } ∷ [];
  outputs = record { name = codes "o0"; place = 3 } ∷ [];
  equations = constants ++ gate 3 (2 ∷ []) not_cover ∷ [];
  starts = [];
}
unfolding body_of record_at header_of symbol_of digits
one_read = refl
