-- What a written text spells.
use Rattle.std.specs.Prelude.{◌≡◌, ℕ, ◌<◌, ◌≤◌, ◌^◌, true, false, List, [], ◌∷◌, length, All, Ok}
use Rattle.proof_check.specs.Literals.{Literal}
use Rattle.lrat_core.specs.dimacs_text.Dimacs.{formula_of}
use Rattle.lrat_core.specs.dimacs_text.dimacs_writer.Written.{dimacs_text}

-- at most 2^30 clauses over at most 2^30 variables
pub record AreWritable (variables : ℕ) (clauses : List (List Literal)) : Type 0 where
  pub few_variables : variables ≤ 2 ^ 30
  pub few_clauses : length clauses ≤ 2 ^ 30
  pub range : All (λ c. All (λ (l : Literal). (0 < l.variable) × (l.variable ≤ variables)) c) clauses

-- the text of clauses spells these clauses
abbrev pub WrittenIsSpelled : Type 0
WrittenIsSpelled = (variables : ℕ) (clauses : List (List Literal)) → AreWritable variables clauses → formula_of (dimacs_text variables clauses) ≡ Ok (record { variables = variables; clauses = clauses })

-- a variable, and its negation
abbrev pub UnitsAreWritable : Type 0
UnitsAreWritable = AreWritable 1 ((record { variable = 1; positive = true } ∷ []) ∷ (record { variable = 1; positive = false } ∷ []) ∷ [])
