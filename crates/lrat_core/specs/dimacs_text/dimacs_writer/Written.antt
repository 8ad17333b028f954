-- The text of clauses in the DIMACS format.
use Rattle.std.specs.Prelude.{ℕ, if◌then◌else◌, List, [], ◌∷◌, ◌++◌, length, codes}
use Rattle.std.specs.Fmt.{decimal}
use Rattle.std.specs.List.{flat_map}
use Rattle.proof_check.specs.Literals.{Literal}

-- a `-` stands before a negated variable
abbrev pub literal_text : Literal → List ℕ
literal_text l = if l.positive then decimal l.variable else 45 ∷ decimal l.variable

-- a literal and a blank
abbrev pub literal_piece : Literal → List ℕ
literal_piece l = literal_text l ++ 32 ∷ []

-- each literal before a blank, and then a 0
abbrev pub clause_line : List Literal → List ℕ
clause_line c = flat_map literal_piece c ++ 48 ∷ []

abbrev pub clause_text : List Literal → List ℕ
clause_text c = flat_map literal_piece c ++ codes "0\n"

abbrev pub header_text : ℕ → ℕ → List ℕ
header_text variables clauses = codes "p cnf " ++ decimal variables ++ 32 ∷ [] ++ decimal clauses ++ 10 ∷ []

-- the header, and a line for each clause
abbrev pub dimacs_text : ℕ → List (List Literal) → List ℕ
dimacs_text variables clauses = header_text variables (length clauses) ++ flat_map clause_text clauses
