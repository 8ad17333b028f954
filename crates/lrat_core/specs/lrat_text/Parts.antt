-- What the parts of the reader and of the checker answer.
use Rattle.std.specs.Prelude.{◌≡◌, ◌⊎◌, ℕ, Bool, true, false, List, Option, Some, None}
use Rattle.std.specs.List.{list_all, before_first, after_first}
use Rattle.proof_check.specs.Literals.{Literal}
use Rattle.text_numbers.specs.Numbers.{is_zero}
use Rattle.text_numbers.specs.declared.numbers.Number.{Number}
use Rattle.lrat_core.specs.dimacs_text.Literals.{is_literal}
use Rattle.text_numbers.specs.declared.kinds.TextKind.TheVariants.{BadLine}
use Rattle.text_numbers.specs.declared.kinds.TextError.{TextError}
use Rattle.text_numbers.specs.declared.kinds.TextError.TheVariants as text_error
use Rattle.lrat_core.specs.Lines.{Line, adds, Deletes}
use Rattle.lrat_core.specs.States.{State}
use Rattle.lrat_core.specs.Sequences.{LineGives, AddsEmpty}
use Rattle.lrat_core.specs.Answers.{IsTaken}
use Rattle.lrat_core.specs.declared.hints.Hint.{Hint}
use Rattle.lrat_core.specs.declared.line_error.LineError.{LineError}
use Rattle.lrat_core.specs.declared.line_error.LineError.TheVariants as line_error
use Rattle.lrat_core.specs.lrat_text.Spellings.{Spelling, Nothing, Malformed, Spells, spelling_by, addition_of, deletion_of, is_addition}
use Rattle.lrat_core.specs.declared.lrat_text.words.Words.{Words}
use Rattle.lrat_core.specs.declared.lrat_text.words.Words.TheVariants as words
use Rattle.lrat_core.specs.declared.lrat_text.line.Form.{Form}
use Rattle.lrat_core.specs.declared.lrat_text.line.Form.TheVariants as form
use Rattle.lrat_core.specs.declared.lrat_text.line.Buffers.{Buffers}

-- the numbers of a line's tokens, and whether it is a deletion
abbrev pub AreWords : List (List ℕ) → Words → List Number → Type 0
AreWords tokens words.Addition numbers = (limit : ℕ) → spelling_by limit tokens ≡ addition_of limit numbers
AreWords tokens words.Deletion numbers = (limit : ℕ) → spelling_by limit tokens ≡ deletion_of numbers
AreWords tokens words.Malformed numbers = (limit : ℕ) → spelling_by limit tokens ≡ Malformed

-- what stands before the first 0 and between it and the next, at the end
pub record ArePartsOf (numbers literals hints : List Number) : Type 0 where
  pub literals_are : literals ≡ before_first is_zero numbers
  pub hints_are : hints ≡ before_first is_zero (after_first is_zero numbers)
  pub decides : (limit : ℕ) → is_addition limit numbers ≡ list_all (is_literal limit) literals

-- an addition of this number, literals and hints, or none
abbrev pub IsAddition : Spelling → Option ℕ → List Literal → List Hint → Type 0
IsAddition is (Some id) literals hints = is ≡ Spells (adds id literals hints)
IsAddition is None literals hints = is ≡ Malformed

-- a deletion of these numbers, or none
abbrev pub IsDeletion : Spelling → Bool → List ℕ → Type 0
IsDeletion is true ids = is ≡ Spells (Deletes ids)
IsDeletion is false ids = is ≡ Malformed

-- what a line spells stands in the buffers
abbrev pub IsForm : Spelling → Form → Buffers → Type 0
IsForm is form.Nothing buffers = is ≡ Nothing
IsForm is form.Malformed buffers = is ≡ Malformed
IsForm is (form.Addition id) buffers = is ≡ Spells (adds id buffers.literals.items buffers.hints.items)
IsForm is form.Deletion buffers = is ≡ Spells (Deletes buffers.ids.items)

-- the line is accepted, and adds the empty clause
pub record Ends (is : Spelling) (old new : State) : Type 0 where
  pub line : Line
  pub spells : is ≡ Spells line
  pub taken : IsTaken old line new
  pub empty : AddsEmpty line

-- the line is accepted, and doesn't add the empty clause
pub record Goes (is : Spelling) (old new : State) : Type 0 where
  pub line : Line
  pub spells : is ≡ Spells line
  pub taken : IsTaken old line new
  pub some : AddsEmpty line → ⊥

-- the line is accepted or passed over, and it is told whether it adds the empty clause
abbrev pub IsStep : Spelling → State → State → Bool → Type 0
IsStep is old new true = Ends is old new
IsStep is old new false = Goes is old new ⊎ ((is ≡ Nothing) × (new ≡ old))

-- the line spells this one, whose fault this is, or it is malformed
abbrev pub IsFault : Spelling → State → LineError → Type 0
IsFault is state (line_error.Fault kind) = ((line : Line) × (is ≡ Spells line) × LineGives state line (Some kind)) ⊎ ((is ≡ Malformed) × (kind ≡ BadLine))
IsFault is state line_error.NoMemory = Unit {0}

-- the error of the numbered line
abbrev pub error_at : ℕ → LineError → TextError
error_at number (line_error.Fault kind) = text_error.At number kind
error_at number line_error.NoMemory = text_error.NoMemory
