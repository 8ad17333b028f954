-- Laws of the definitions.
use Rattle.std.specs.Prelude.{◌≡◌, ℕ, List}
use Rattle.proof_check.specs.Literals.{Literal}
use Rattle.proof_check.specs.Clauses.{Unsatisfiable}
use Rattle.lrat_core.specs.Sequences.{Verdict, Accepted, IsVerdict}
use Rattle.lrat_core.specs.Lines.{Line}

-- a sequence of lines has at most one verdict
abbrev pub SequenceHasOneVerdict : Type 0
SequenceHasOneVerdict = (clauses : List (List Literal)) (lines : List Line) (v w : Verdict) → IsVerdict clauses lines v → IsVerdict clauses lines w → v ≡ w

-- an accepted sequence shows that no assignment meets all clauses
abbrev pub AcceptedIsUnsatisfiable : Type 0
AcceptedIsUnsatisfiable = (clauses : List (List Literal)) (lines : List Line) (number : ℕ) → IsVerdict clauses lines (Accepted number) → Unsatisfiable clauses
