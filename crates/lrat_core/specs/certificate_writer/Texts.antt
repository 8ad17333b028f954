-- The texts of clauses and of their refutation.
use Rattle.std.specs.Prelude.{◌≡◌, ℕ, List, [], ◌∷◌, ◌++◌, codes, Ok}
use Rattle.std.specs.Fmt.{decimal}
use Rattle.std.specs.List.{flat_map}
use Rattle.proof_check.specs.Literals.{Literal}
use Rattle.proof_check.specs.Chains.{LogDerives}
use Rattle.proof_check.specs.declared.derivation.Chain.{Chain}
use Rattle.pair_decide.specs.declared.cnf_encode.cnf.Cnf.{Cnf}
use Rattle.lrat_core.specs.dimacs_text.Dimacs.{formula_of}
use Rattle.lrat_core.specs.dimacs_text.Formulas.{Formula}
use Rattle.lrat_core.specs.dimacs_text.dimacs_writer.Written.{literal_piece, dimacs_text}
use Rattle.lrat_core.specs.Lines.{Addition, Line, Adds, Deletes}
use Rattle.lrat_core.specs.Logs.{lines_of}
use Rattle.lrat_core.specs.Sequences.{Accepted}
use Rattle.lrat_core.specs.declared.hints.Hint.{Hint}
use Rattle.lrat_core.specs.declared.hints.Hint.TheVariants.{Clause, Negative}
use Rattle.lrat_core.specs.lrat_text.Verdicts.{IsTextVerdict}

-- the number of a clause, and a blank
abbrev pub number_piece : ℕ → List ℕ
number_piece id = decimal id ++ 32 ∷ []

-- a `-` stands before a number below 0
abbrev pub hint_piece : Hint → List ℕ
hint_piece (Clause id) = number_piece id
hint_piece (Negative size) = 45 ∷ number_piece size

-- the line `id literals 0 hints 0`
abbrev pub addition_text : Addition → List ℕ
addition_text a = number_piece a.id ++ flat_map literal_piece a.literals ++ codes "0 " ++ flat_map hint_piece a.hints ++ codes "0\n"

-- a line of a refutation; the number of a deletion itself isn't looked at, and it is 0 here
abbrev pub line_text : Line → List ℕ
line_text (Adds a) = addition_text a
line_text (Deletes ids) = codes "0 d " ++ flat_map number_piece ids ++ codes "0\n"

-- the text of a log: for each chain the line that adds the clause which it derives
pub record IsTextOf (clauses : List (List Literal)) (log : List Chain) (text : List ℕ) : Type 0 where
  pub derived : List (List Literal)
  pub derives : LogDerives clauses log derived
  pub text_is : text ≡ flat_map line_text (lines_of clauses log derived)

-- the clauses of a query as those of a text
abbrev pub formula_for : Cnf → Formula
formula_for cnf = record { variables = cnf.variables; clauses = cnf.clauses }

-- the text spells the clauses, in the order and form in which they are written
abbrev pub SpellsClauses : Cnf → List ℕ → Type 0
SpellsClauses cnf text = (text ≡ dimacs_text cnf.variables cnf.clauses) × (formula_of text ≡ Ok (formula_for cnf))

-- the text is accepted as a refutation of the clauses
abbrev pub IsAcceptedOver : Cnf → List ℕ → Type 0
IsAcceptedOver cnf text = (number : ℕ) × IsTextVerdict (formula_for cnf) text (Accepted number)
