-- What the parts of the writer answer.
use Rattle.std.specs.Prelude.{◌≡◌, ℕ, ◌<◌, ◌≤◌, Bool, true, false, List, ◌∷◌, ◌++◌, map, Option, Some, None, All}
use Rattle.std.specs.List.{Contains, flat_map}
use Rattle.proof_check.specs.Literals.{Literal, negation}
use Rattle.clause_watch.specs.declared.entry.Entry.{Entry}
use Rattle.lrat_core.specs.Logs.{is_met, first_open, hints_of, numbered_clause}
use Rattle.lrat_core.specs.certificate_writer.Texts.{hint_piece}
use Rattle.lrat_core.specs.declared.certificate_writer.known.Known.{Known}
use Rattle.lrat_core.specs.declared.certificate_writer.hints.Look.{Look}
use Rattle.lrat_core.specs.declared.certificate_writer.hints.Look.TheVariants.{Met, False, Open}

-- the clauses that have numbers
abbrev pub all_known : Known → List (List Literal)
all_known k = k.given.now ++ k.derived.now

-- the literals that a trail makes false, in order
abbrev pub falsified_by : List Entry → List Literal
falsified_by entries = map (λ (e : Entry). negation e.literal) entries

-- no variable of the clause is above this
abbrev pub IsWithin : ℕ → List Literal → Type 0
IsWithin variables c = All (λ (l : Literal). (0 < l.variable) × (l.variable ≤ variables)) c

abbrev pub AreWithin : ℕ → List (List Literal) → Type 0
AreWithin variables clauses = All (IsWithin variables) clauses

-- no literal stands there with its negation
abbrev pub IsConsistent : List Literal → Type 0
IsConsistent literals = (l : Literal) → Contains literals l → Contains literals (negation l) → ⊥

-- what the clause is where these literals are false
abbrev pub IsLook : List Literal → List Literal → Look → Type 0
IsLook falsified c Met = is_met falsified c ≡ true
IsLook falsified c False = (is_met falsified c ≡ false) × (first_open falsified c ≡ None)
IsLook falsified c (Open l) = (is_met falsified c ≡ false) × (first_open falsified c ≡ Some l)

abbrev pub first_of : Option Literal → Literal → Option Literal
first_of (Some first) l = Some first
first_of None l = Some l

-- the text of the hints of numbered clauses
abbrev pub hints_text : List Literal → List (ℕ × List Literal) → List ℕ
hints_text falsified entries = flat_map hint_piece (hints_of falsified entries)

-- After the hint of the numbered clause the text ends with what it puts, whatever clauses follow; where further hints follow, they are
-- those over the literals that are false then.
abbrev pub IsHinted : List (List Literal) → ℕ → List ℕ → List Literal → Bool → List ℕ → List Literal → Type 0
IsHinted known number text falsified true new_text new_falsified =
    IsConsistent new_falsified × ((rest : List (ℕ × List Literal)) → new_text ++ hints_text new_falsified rest ≡ text ++ hints_text falsified (numbered_clause known number ∷ rest))
IsHinted known number text falsified false new_text new_falsified = (rest : List (ℕ × List Literal)) → new_text ≡ text ++ hints_text falsified (numbered_clause known number ∷ rest)
