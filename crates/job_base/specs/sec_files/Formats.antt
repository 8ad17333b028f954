-- In which format a text writes a circuit, and what it spells in that.
use Rattle.std.specs.Prelude.{◌≡◌, ℕ, ◌||◌, Bool, if◌then◌else◌, List, [], Option, Some, None, codes, nat_eq, refl}
use Rattle.std.specs.List.{starts_with}
use Rattle.circuit_theory.specs.Circuit.{Circuit}
use Rattle.blif_read.specs.Design.{Place, circuit_of_design, IsClock}
use Rattle.blif_read.specs.Reading.{first_fault, spelled}
use Rattle.flat_net.specs.View.{NetView}
use Rattle.flatten.specs.DesignFaults.{IsSoundDesign, IsFlatOf}
use Rattle.job_base.specs.sec_files.Named.{named_circuit}
use Rattle.aiger_read.specs.declared.aiger_file.file.AigerFile.{AigerFile}
use Rattle.aiger_read.specs.aiger_file.Files.{fault_of_text}
use Rattle.aiger_read.specs.aiger_file.Reading.{spelled as spelled_file}
use Rattle.aiger_read.specs.aiger_file.aiger_graph.Circuit.{circuit_of_file}
use Rattle.aiger_read.specs.aiger_file.aiger_graph.Loops.{HasLoop}
use Rattle.aiger_read.specs.Nets.{IsNetOf}
use Rattle.aiger_read.specs.SignalNames.{signal_name}

-- the formats of circuits
pub data Format : Type 0 where
  Blif : Format
  Aiger : Format

-- the text begins as the header of an AIGER file does
abbrev pub is_aiger : List ℕ → Bool
is_aiger text = starts_with nat_eq text (codes "aag ") || starts_with nat_eq text (codes "aig ")

abbrev pub format_of : List ℕ → Format
format_of text = if is_aiger text then Aiger else Blif

-- the circuit of a file: its literals are the places that have the names of their signals
abbrev pub circuit_of_aiger : Option AigerFile → Circuit Place
circuit_of_aiger None = record { inputs = []; outputs = []; equations = []; starts = [] }
circuit_of_aiger (Some f) = named_circuit (signal_name f) (circuit_of_file f)

-- the circuit that a text spells, where this is its clock net; that of a file has none
abbrev pub circuit_in : Format → List ℕ → Option (List ℕ) → Circuit Place
circuit_in Blif text clock = circuit_of_design (spelled text) clock
circuit_in Aiger text clock = circuit_of_aiger (spelled_file text)

-- this is the clock net of what the text spells
abbrev pub IsClockIn : Format → List ℕ → Option (List ℕ) → Type 0
IsClockIn Blif text clock = IsClock (spelled text) clock
IsClockIn Aiger text clock = clock ≡ None

-- the text has no faulty line, or no faulty record
abbrev pub IsReadIn : Format → List ℕ → Type 0
IsReadIn Blif text = first_fault text ≡ None
IsReadIn Aiger text = fault_of_text text ≡ None

-- the design of the text has no fault, or the gates of the file form no loop
abbrev pub IsSoundIn : Format → List ℕ → Type 0
IsSoundIn Blif text = IsSoundDesign (spelled text)
IsSoundIn Aiger text = (f : AigerFile) → spelled_file text ≡ Some f → HasLoop f → ⊥

-- the net is that of what the text spells, with its circuit, initial values, names and clock net
abbrev pub IsNetIn : Format → List ℕ → NetView → Type 0
IsNetIn Blif text net = IsFlatOf (spelled text) net
IsNetIn Aiger text net = (f : AigerFile) × (spelled_file text ≡ Some f) × IsNetOf f net

-- both words of a header, and what is none: another letter, no blank behind the word, or another place
formats : (format_of (codes "aag 0 0 0 0 0\n") ≡ Aiger) × (format_of (codes "aig 0 0 0 0 0\n") ≡ Aiger) × (format_of (codes "aog 0 0 0 0 0\n") ≡ Blif) × (format_of (codes "aag\n") ≡ Blif) × (format_of (codes " aag 0 0 0 0 0\n") ≡ Blif)
formats = (refl, refl, refl, refl, refl)
