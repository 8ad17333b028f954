-- The records of the body of a file.
use Rattle.std.specs.Prelude.{ℕ, zero, suc, ◌+◌, ◌-◌, ◌*◌, nat_lt, Bool, true, false, if◌then◌else◌, List, [], ◌∷◌, ◌++◌, Option, Some, None, option_and_then, option_map}
use Rattle.aiger_read.specs.declared.aiger_records.header.Form.{Form}
use Rattle.aiger_read.specs.declared.aiger_records.header.Form.TheVariants.{Ascii, Binary}
use Rattle.aiger_read.specs.declared.aiger_records.header.Header.{Header}
use Rattle.aiger_read.specs.declared.aiger_records.record.Section.{Section}
use Rattle.aiger_read.specs.declared.aiger_records.record.Section.TheVariants as section
use Rattle.aiger_read.specs.declared.aiger_records.record.Record.{Record}
use Rattle.aiger_read.specs.declared.aiger_records.record.Record.TheVariants.{Input, Latch, Output, Gate, Packed}
use Rattle.aiger_read.specs.aiger_records.Lines.{Cut, first_line}
use Rattle.aiger_read.specs.aiger_records.Numbers.{numbers, numbers_behind, words_of}
use Rattle.aiger_read.specs.aiger_records.Packed.{PackedNumber, packed}

-- the record of these numbers; a latch without a reset has 0
abbrev pub listed : Section → List ℕ → Option Record
listed section.Input (literal ∷ []) = Some (Input literal)
listed section.Latch (literal ∷ next ∷ []) = Some (Latch literal next 0)
listed section.Latch (literal ∷ next ∷ reset ∷ []) = Some (Latch literal next reset)
listed section.Output (literal ∷ []) = Some (Output literal)
listed section.Gate (literal ∷ left ∷ right ∷ []) = Some (Gate literal left right)
listed other others = None

-- how many lines inputs have: in the binary form none
abbrev pub input_lines : Form → ℕ → ℕ
input_lines Ascii inputs = inputs
input_lines Binary inputs = 0

-- how many records a body has
abbrev pub body_length : Header → ℕ
body_length h = input_lines h.form h.inputs + h.latches + h.outputs + h.gates

-- the section of record k of so many inputs, latches and outputs
abbrev pub section_at : ℕ → ℕ → ℕ → ℕ → Section
section_at inputs latches outputs k =
    if nat_lt k inputs then section.Input else
    (if nat_lt k (inputs + latches) then section.Latch else
    (if nat_lt k (inputs + latches + outputs) then section.Output else section.Gate))

-- what record k of the body is to be, counted from 0
abbrev pub section_of : Header → ℕ → Section
section_of h k = section_at (input_lines h.form h.inputs) h.latches h.outputs k

-- the literal of a latch of the binary form, which is record k of the body
abbrev pub latch_literal : Header → ℕ → ℕ
latch_literal h k = 2 * (h.inputs + k + 1)

-- the literal of a gate of the binary form
abbrev pub gate_literal : Header → ℕ → ℕ
gate_literal h k = 2 * (h.inputs + (k - h.outputs) + 1)

-- the numbers that a line leaves out at its front
abbrev pub left_out : Header → ℕ → Form → Section → List ℕ
left_out h k Binary section.Latch = latch_literal h k ∷ []
left_out h k form s = []

-- a record, and what stands after it
pub record Taken : Type 0 where
  pub found : Record
  pub after : List ℕ

abbrev pub line_record : Header → ℕ → Section → List ℕ → Option Record
line_record h k s line = option_and_then (listed s) (numbers_behind (left_out h k h.form s) (numbers (words_of line)))

abbrev pub followed_by : List ℕ → Record → Taken
followed_by after r = record { found = r; after = after }

-- record k as a line
abbrev pub cut_record : Header → ℕ → Section → Cut → Option Taken
cut_record h k s cut = option_map (followed_by cut.after) (line_record h k s cut.before)

abbrev pub second_difference : ℕ → PackedNumber → Option Taken
second_difference literal first = option_map (λ (second : PackedNumber). followed_by second.after (Packed literal first.value second.value)) (packed 5 first.after)

-- a gate by its differences
abbrev pub packed_record : ℕ → List ℕ → Option Taken
packed_record literal text = option_and_then (second_difference literal) (packed 5 text)

-- whether such a record is no line, but two differences
abbrev pub is_packed : Form → Section → Bool
is_packed Binary section.Gate = true
is_packed form s = false

abbrev pub record_in : Header → ℕ → Section → List ℕ → Option Taken
record_in h k s text = if is_packed h.form s then packed_record (gate_literal h k) text else option_and_then (cut_record h k s) (first_line text)

-- record k of the body, where this text is left; None where it is cut off or not of its form
unfoldable pub record_at : Header → ℕ → List ℕ → Option Taken
record_at h k text = record_in h k (section_of h k) text

-- the inputs of the binary form: the variables from 1 to n
abbrev pub inputs_to : ℕ → List Record
inputs_to zero = []
inputs_to (suc n) = inputs_to n ++ Input (2 * suc n) ∷ []

-- the inputs that have no record of their own
abbrev pub implied : Form → ℕ → List Record
implied Ascii inputs = []
implied Binary inputs = inputs_to inputs
