-- Which LRAT texts are accepted, and the first fault of the others.
use Rattle.std.specs.Prelude.{◌≡◌, ℕ, suc, List, [], ◌∷◌, Some, None, Result, Ok, Err}
use Rattle.text_numbers.specs.Lines.{lines_of}
use Rattle.text_numbers.specs.declared.kinds.TextError.{TextError}
use Rattle.text_numbers.specs.declared.kinds.TextError.TheVariants as error
use Rattle.text_numbers.specs.declared.kinds.TextKind.{TextKind}
use Rattle.text_numbers.specs.declared.kinds.TextKind.TheVariants.{BadLine, NoEmpty}
use Rattle.lrat_core.specs.dimacs_text.Formulas.{Formula}
use Rattle.lrat_core.specs.Lines.{Line}
use Rattle.lrat_core.specs.States.{State, start}
use Rattle.lrat_core.specs.Sequences.{Verdict, Accepted, Refused, LineGives, AddsEmpty, after}
use Rattle.lrat_core.specs.declared.lrat_text.checking.Verified.{Verified}
use Rattle.lrat_core.specs.lrat_text.Spellings.{Nothing, Malformed, Spells, spelling_of}

-- What becomes of the lines from the one of this number on, where literals have variables up to the limit: the first that adds the
-- empty clause ends the text, if it and all before it are accepted, and a fault names the first faulty line.
pub data TextGives (limit : ℕ) : State → ℕ → List (List ℕ) → Verdict → Type 0 where
  none_left : {state : State} {number : ℕ} → TextGives limit state number [] (Refused 0 NoEmpty)
  passed_over : {state : State} {number : ℕ} {bytes : List ℕ} {lines : List (List ℕ)} {verdict : Verdict} → spelling_of limit bytes ≡ Nothing →
      TextGives limit state (suc number) lines verdict → TextGives limit state number (bytes ∷ lines) verdict
  malformed : {state : State} {number : ℕ} {bytes : List ℕ} {lines : List (List ℕ)} → spelling_of limit bytes ≡ Malformed →
      TextGives limit state number (bytes ∷ lines) (Refused number BadLine)
  faulty : {state : State} {number : ℕ} {bytes : List ℕ} {lines : List (List ℕ)} {line : Line} {kind : TextKind} → spelling_of limit bytes ≡ Spells line →
      LineGives state line (Some kind) → TextGives limit state number (bytes ∷ lines) (Refused number kind)
  last : {state : State} {number : ℕ} {bytes : List ℕ} {lines : List (List ℕ)} {line : Line} → spelling_of limit bytes ≡ Spells line → LineGives state line None → AddsEmpty line →
      TextGives limit state number (bytes ∷ lines) (Accepted number)
  next : {state : State} {number : ℕ} {bytes : List ℕ} {lines : List (List ℕ)} {line : Line} {verdict : Verdict} → spelling_of limit bytes ≡ Spells line → LineGives state line None → (AddsEmpty line → ⊥) →
      TextGives limit (after state line) (suc number) lines verdict → TextGives limit state number (bytes ∷ lines) verdict

-- what becomes of the text over the formula's clauses
abbrev pub IsTextVerdict : Formula → List ℕ → Verdict → Type 0
IsTextVerdict formula text verdict = TextGives formula.variables (start formula.clauses) 1 (lines_of text) verdict

-- the text is accepted at this line, or refused for its first fault; want of memory alone has no cause
abbrev pub IsChecked : Formula → List ℕ → Result Verified TextError → Type 0
IsChecked formula text (Ok verified) = IsTextVerdict formula text (Accepted verified.lines)
IsChecked formula text (Err (error.At line kind)) = IsTextVerdict formula text (Refused line kind)
IsChecked formula text (Err error.NoMemory) = Unit {0}
