-- The names of inputs, latches and outputs.
use Rattle.std.specs.Prelude.{ℕ, zero, suc, ◌+◌, ◌||◌, Bool, false, if◌then◌else◌, List, [], ◌∷◌, ◌++◌, bytes_eq}
use Rattle.std.specs.Fmt.{decimal}
use Rattle.base_tables.specs.Table.{is_among}
use Rattle.aiger_read.specs.declared.aiger_file.symbol.Named.{Named}

-- the word that names number k of a kind: its letter and the number
abbrev pub key_of : ℕ → ℕ → List ℕ
key_of letter k = letter ∷ decimal k

-- the name beside the key; the key itself where none is there
abbrev pub name_beside : List (List ℕ) → List (List ℕ) → List ℕ → List ℕ
name_beside [] names key = key
name_beside (k ∷ keys) [] key = key
name_beside (k ∷ keys) (name ∷ names) key = if bytes_eq key k then name else name_beside keys names key

-- the name of number k of the kind with this letter
abbrev pub name_of : Named → ℕ → ℕ → List ℕ
name_of symbols letter k = name_beside symbols.keys symbols.names (key_of letter k)

-- so many names, from number k on
abbrev pub names_from : Named → ℕ → ℕ → ℕ → List (List ℕ)
names_from symbols letter zero k = []
names_from symbols letter (suc n) k = name_of symbols letter k ∷ names_from symbols letter n (k + 1)

-- one of the names stands among those before it
abbrev pub repeats : List (List ℕ) → List (List ℕ) → Bool
repeats before [] = false
repeats before (name ∷ names) = is_among before name || repeats (before ++ name ∷ []) names
