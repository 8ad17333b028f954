-- What texts say as clauses and as refutations, and why they say nothing. A text is given where it is told.
use Rattle.std.specs.Prelude.{◌≡◌, ◌≤◌, ◌<◌, ℕ, List, length, Option, IfSome, Ok, Err}
use Rattle.sec_base.specs.declared.limits.TheConstants.{MAX_FILE_BYTES}
use Rattle.base_shelves.specs.declared.whole_file.FetchError.TheVariants as fetch_error
use Rattle.text_numbers.specs.declared.kinds.TextError.TheVariants as text_error
use Rattle.text_numbers.specs.declared.kinds.TextKind.{TextKind}
use Rattle.lrat_core.specs.dimacs_text.Dimacs.{formula_of}
use Rattle.lrat_core.specs.dimacs_text.Formulas.{Formula}
use Rattle.lrat_core.specs.Sequences.{Accepted, Refused}
use Rattle.lrat_core.specs.lrat_text.Verdicts.{IsTextVerdict}
use Rattle.job_cert.specs.declared.job_lrat.loading.TextLoadError.{TextLoadError}
use Rattle.job_cert.specs.declared.job_lrat.loading.TextLoadError.TheVariants as error

-- a text of more bytes than are read
abbrev pub IsLong : List ℕ → Type 0
IsLong text = MAX_FILE_BYTES < length text

-- the text, of at most 16,777,216 bytes, spells these clauses
pub record Spells (text : List ℕ) (formula : Formula) : Type 0 where
  pub short : length text ≤ MAX_FILE_BYTES
  pub is : formula_of text ≡ Ok formula

-- the text, of at most 16,777,216 bytes, spells no clauses: this line is the first faulty one
pub record HasClausesFault (text : List ℕ) (line : ℕ) (kind : TextKind) : Type 0 where
  pub short : length text ≤ MAX_FILE_BYTES
  pub is : formula_of text ≡ Err (text_error.At line kind)

-- the text, of at most 16,777,216 bytes, is accepted over these clauses at this line
pub record Refutes (formula : Formula) (text : List ℕ) (line : ℕ) : Type 0 where
  pub short : length text ≤ MAX_FILE_BYTES
  pub accepted : IsTextVerdict formula text (Accepted line)

-- the text, of at most 16,777,216 bytes, isn't accepted over these clauses: this line is the first faulty one
pub record HasProofFault (formula : Formula) (text : List ℕ) (line : ℕ) (kind : TextKind) : Type 0 where
  pub short : length text ≤ MAX_FILE_BYTES
  pub refused : IsTextVerdict formula text (Refused line kind)

-- what is true where the clauses of a path aren't loaded: `clauses` is what is held there, `rose` that its count of faults rose
abbrev pub ClausesFail : Option (List ℕ) → Type 0 → TextLoadError → Type 0
ClausesFail clauses rose (error.Fetch fetch_error.Failed) = rose
ClausesFail clauses rose (error.Fetch fetch_error.TooLong) = IfSome clauses IsLong
ClausesFail clauses rose (error.Fetch fetch_error.NoMemory) = Unit {0}
ClausesFail clauses rose (error.Read (text_error.At line kind)) = IfSome clauses (λ x. HasClausesFault x line kind)
ClausesFail clauses rose (error.Read text_error.NoMemory) = Unit {0}

-- the same of a text over these clauses
abbrev pub ProofFails : Formula → Option (List ℕ) → Type 0 → TextLoadError → Type 0
ProofFails formula proof rose (error.Fetch fetch_error.Failed) = rose
ProofFails formula proof rose (error.Fetch fetch_error.TooLong) = IfSome proof IsLong
ProofFails formula proof rose (error.Fetch fetch_error.NoMemory) = Unit {0}
ProofFails formula proof rose (error.Read (text_error.At line kind)) = IfSome proof (λ y. HasProofFault formula y line kind)
ProofFails formula proof rose (error.Read text_error.NoMemory) = Unit {0}
