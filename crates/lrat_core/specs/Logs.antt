-- The lines that show a log of resolution chains.
use Rattle.std.specs.Prelude.{ℕ, suc, ◌+◌, ◌||◌, ◌==◌, if◌then◌else◌, Bool, false, List, [], ◌∷◌, ◌++◌, length, map, reverse, slice_index_or, Option, Some, None}
use Rattle.std.specs.List.{list_any, All}
use Rattle.proof_check.specs.Literals.{Literal, negation}
use Rattle.proof_check.specs.Clauses.{IsClause}
use Rattle.proof_check.specs.Chains.{LogDerives, EndsEmpty}
use Rattle.proof_check.specs.declared.derivation.Chain.{Chain}
use Rattle.lrat_core.specs.Marks.{mark_of}
use Rattle.lrat_core.specs.Sequences.{Accepted, IsVerdict}
use Rattle.lrat_core.specs.declared.hints.Hint.{Hint}
use Rattle.lrat_core.specs.declared.hints.Hint.TheVariants.{Clause}
use Rattle.lrat_core.specs.Lines.{Line, Adds}

-- the literal is among these
abbrev pub is_in : List Literal → Literal → Bool
is_in literals l = list_any (λ m. mark_of m == mark_of l) literals

-- a literal of the clause is true where these are false
abbrev pub is_met : List Literal → List Literal → Bool
is_met falsified [] = false
is_met falsified (l ∷ ls) = is_in falsified (negation l) || is_met falsified ls

-- the first literal of the clause that isn't false
abbrev pub first_open : List Literal → List Literal → Option Literal
first_open falsified [] = None
first_open falsified (l ∷ ls) = if is_in falsified l then first_open falsified ls else Some l

-- the hints after one whose clause has this literal open
abbrev pub hints_after : Option Literal → (Literal → List Hint) → List Hint
hints_after None later = []
hints_after (Some l) later = later l

-- The hints of numbered clauses, in order: a clause that is true is left out, and the first false one ends the list.
abbrev pub hints_of : List Literal → List (ℕ × List Literal) → List Hint
hints_of falsified [] = []
hints_of falsified (e ∷ rest) =
    if is_met falsified e.1 then hints_of falsified rest else (Clause e.0 ∷ hints_after (first_open falsified e.1) (λ l. hints_of (falsified ++ negation l ∷ []) rest))

-- a known clause with its number, which counts from 1
abbrev pub numbered_clause : List (List Literal) → ℕ → ℕ × List Literal
numbered_clause known k = (suc k, slice_index_or known k [])

-- the clauses of a chain from the last step to the first, and then the one that it begins with
abbrev pub clauses_back : List (List Literal) → Chain → List (ℕ × List Literal)
clauses_back known chain = map (numbered_clause known) (reverse (chain.start ∷ map (λ s. s.clause) chain.steps))

-- one addition for each chain
abbrev pub lines_of : List (List Literal) → List Chain → List (List Literal) → List Line
lines_of known [] derived = []
lines_of known (chain ∷ log) [] = []
lines_of known (chain ∷ log) (c ∷ derived) =
    Adds (record { id = length known + 1; literals = c; hints = hints_of c (clauses_back known chain) }) ∷ lines_of (known ++ c ∷ []) log derived

-- the lines of a log that derives the empty clause last are accepted
abbrev pub LogsAreAccepted : Type 0
LogsAreAccepted = (known : List (List Literal)) (log : List Chain) (derived : List (List Literal)) → All IsClause known → LogDerives known log derived → EndsEmpty derived →
    (number : ℕ) × IsVerdict known (lines_of known log derived) (Accepted number)
