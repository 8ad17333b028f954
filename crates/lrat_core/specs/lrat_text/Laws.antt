-- Laws of the verdicts.
use Rattle.std.specs.Prelude.{◌≡◌, ℕ, true, false, List, [], ◌∷◌, codes}
use Rattle.proof_check.specs.Clauses.{Unsatisfiable}
use Rattle.lrat_core.specs.dimacs_text.Formulas.{Formula}
use Rattle.lrat_core.specs.Sequences.{Verdict, Accepted}
use Rattle.lrat_core.specs.lrat_text.Verdicts.{IsTextVerdict}

-- a text has at most one verdict over a formula
abbrev pub TextHasOneVerdict : Type 0
TextHasOneVerdict = (formula : Formula) (text : List ℕ) (v w : Verdict) → IsTextVerdict formula text v → IsTextVerdict formula text w → v ≡ w

-- where a text is accepted, no assignment meets all clauses
abbrev pub AcceptedTextRefutes : Type 0
AcceptedTextRefutes = (formula : Formula) (text : List ℕ) (number : ℕ) → IsTextVerdict formula text (Accepted number) → Unsatisfiable formula.clauses

-- a variable, and its negation, are refuted by one line
abbrev pub TwoUnitsAreRefuted : Type 0
TwoUnitsAreRefuted =
    IsTextVerdict (record { variables = 1; clauses = (record { variable = 1; positive = true } ∷ []) ∷ (record { variable = 1; positive = false } ∷ []) ∷ [] }) (codes "3 0 1 2 0") (Accepted 1)
