-- What a shelf in memory holds and counts.
use Rattle.std.specs.Prelude.{◌≡◌, ◌+◌, ◌-◌, ◌^◌, ℕ, min, List, [], Option, IsSome, Contains, option_map}
use Rattle.std.specs.Option.{option_map_or}
use Rattle.std.specs.BTreeMap.{get_by_text}
use Rattle.base_shelves.specs.declared.mem_shelf.MemShelf.{MemShelf}

-- the bytes that are held at a path
abbrev pub held_by : MemShelf → List ℕ → Option (List ℕ)
held_by shelf path = option_map (λ f. f.bytes) (get_by_text shelf.files path)

-- the count of faults of a path: the file's own, or the one that all paths share which aren't held
abbrev pub faults_of : MemShelf → List ℕ → ℕ
faults_of shelf path = option_map_or (λ f. f.faults) (get_by_text shelf.files path) shelf.absent_faults

-- how many bytes a read gives at most
abbrev pub most_of : MemShelf → ℕ
most_of shelf = shelf.more + 1

-- the number of the next read, from 1; it stays at the last value of its type
abbrev pub next_call : MemShelf → ℕ
next_call shelf = min (shelf.calls + 1) (2 ^ 64 - 1)

-- the path is held, and the next read isn't told to fail
abbrev pub IsServed : MemShelf → List ℕ → Type 0
IsServed shelf path = IsSome (held_by shelf path) × (Contains shelf.fails (next_call shelf) → ⊥)

-- the path is held, and no read is told to fail
abbrev pub IsServing : MemShelf → List ℕ → Type 0
IsServing shelf path = IsSome (held_by shelf path) × (shelf.fails ≡ [])
