-- What a DIMACS text holds behind its header: literals, and the ends of clauses.
use Rattle.std.specs.Prelude.{ℕ, suc, ◌==◌, nat_le, Bool, true, false, not, if◌then◌else◌, List, [], ◌∷◌, ◌++◌, Option, Some, None}
use Rattle.proof_check.specs.Literals as words
use Rattle.text_numbers.specs.declared.numbers.Number.{Number}
use Rattle.text_numbers.specs.Numbers.{number_of, all_spelled}
use Rattle.lrat_core.specs.declared.dimacs_text.entries.Entry.{Entry}
use Rattle.lrat_core.specs.declared.dimacs_text.entries.Entry.TheVariants.{Literal, End}
use Rattle.lrat_core.specs.dimacs_text.Literals.{literal_of}

-- the entry that a number stands for: 0 ends a clause, and a literal's variable isn't above the limit
abbrev pub entry_from : ℕ → Option Number → Option Entry
entry_from limit None = None
entry_from limit (Some n) = if n.size == 0 then Some End else (if nat_le n.size limit then Some (Literal (literal_of n)) else None)

abbrev pub entry_of : ℕ → List ℕ → Option Entry
entry_of limit token = entry_from limit (number_of token)

-- the entries of all tokens
abbrev pub entries_of : ℕ → List (List ℕ) → Option (List Entry)
entries_of limit tokens = all_spelled (entry_of limit) tokens

abbrev pub is_end : Entry → Bool
is_end (Literal l) = false
is_end End = true

-- how many clauses end in the entries
abbrev pub ends : List Entry → ℕ
ends [] = 0
ends (Literal l ∷ more) = ends more
ends (End ∷ more) = suc (ends more)

-- a literal stands last
abbrev pub is_open : List Entry → Bool
is_open [] = false
is_open (e ∷ []) = not (is_end e)
is_open (e ∷ f ∷ more) = is_open (f ∷ more)

-- the clauses that end in the entries, where these literals stand before them
abbrev pub clauses_from : List words.Literal → List Entry → List (List words.Literal)
clauses_from front [] = []
clauses_from front (Literal l ∷ more) = clauses_from (front ++ l ∷ []) more
clauses_from front (End ∷ more) = front ∷ clauses_from [] more
