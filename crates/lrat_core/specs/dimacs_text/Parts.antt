-- What the reader's parts answer.
use Rattle.std.specs.Prelude.{◌≡◌, ℕ, List, Result, Err}
use Rattle.text_numbers.specs.declared.kinds.TextError.{TextError}
use Rattle.text_numbers.specs.declared.kinds.TextError.TheVariants.{At, NoMemory}
use Rattle.lrat_core.specs.dimacs_text.Formulas.{Formula}
use Rattle.lrat_core.specs.declared.dimacs_text.counts.Header.{Header}
use Rattle.lrat_core.specs.declared.dimacs_text.entries.Entry.{Entry}
use Rattle.lrat_core.specs.dimacs_text.Dimacs.{line_entries, line_then}

-- the line of this number has this fault, whatever later lines give
abbrev pub IsLineFault : Header → List Entry → List ℕ → ℕ → TextError → Type 0
IsLineFault header before line number NoMemory = Unit {0}
IsLineFault header before line number (At n kind) = (later : List Entry → Result Formula TextError) → line_then header number (line_entries header.variables before line) later ≡ Err (At n kind)
