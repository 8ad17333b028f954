-- Clauses, and logs that refute them, which can be written as texts.
use Rattle.std.specs.Prelude.{ℕ, ◌+◌, ◌^◌, ◌<◌, true, false, List, [], ◌∷◌, length, codes}
use Rattle.proof_check.specs.Literals.{Literal}
use Rattle.proof_check.specs.Chains.{IsRefutation}
use Rattle.proof_check.specs.declared.derivation.Step.{Step}
use Rattle.proof_check.specs.declared.derivation.Chain.{Chain}
use Rattle.lrat_core.specs.dimacs_text.dimacs_writer.Laws.{AreWritable}
use Rattle.lrat_core.specs.certificate_writer.Texts.{IsTextOf}

abbrev pub yes : ℕ → Literal
yes v = record { variable = v; positive = true }

abbrev pub no : ℕ → Literal
no v = record { variable = v; positive = false }

-- resolve on the variable with the clause of this number, which counts from 0
abbrev pub on : ℕ → ℕ → Step
on pivot clause = record { pivot = pivot; clause = clause }

-- the log refutes the clauses, both can be written, and the log's text is this one
pub record CanBeWritten (variables : ℕ) (clauses : List (List Literal)) (log : List Chain) (text : List ℕ) : Type 0 where
  pub writable : AreWritable variables clauses
  pub few : length clauses + length log < 2 ^ 32
  pub refutes : IsRefutation clauses log
  pub spelled : IsTextOf clauses log text

-- a variable and its negation
abbrev pub units : List (List Literal)
units = (yes 1 ∷ []) ∷ (no 1 ∷ []) ∷ []

-- they are resolved
abbrev pub one_step : List Chain
one_step = record { start = 0; steps = on 1 1 ∷ [] } ∷ []

abbrev pub UnitsCanBeWritten : Type 0
UnitsCanBeWritten = CanBeWritten 1 units one_step (codes "3 0 2 1 0\n")

-- one of two variables, an equation of them, and the second's negation
abbrev pub equal_pair : List (List Literal)
equal_pair = (yes 1 ∷ yes 2 ∷ []) ∷ (no 1 ∷ yes 2 ∷ []) ∷ (yes 1 ∷ no 2 ∷ []) ∷ (no 2 ∷ []) ∷ []

-- a chain with a detour: it comes to the second variable, by it to the first, and by that to the second again
abbrev pub with_detour : List Chain
with_detour = record { start = 0; steps = on 1 1 ∷ on 2 2 ∷ on 1 1 ∷ on 2 3 ∷ [] } ∷ []

-- The hints leave the detour out: where the fourth clause and the second are followed, the third is true, and so is the second when its
-- turn comes again.
abbrev pub DetourCanBeWritten : Type 0
DetourCanBeWritten = CanBeWritten 2 equal_pair with_detour (codes "5 0 4 2 1 0\n")
