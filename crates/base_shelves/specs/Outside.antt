-- What reads and writes of the outside do.
use Rattle.std.specs.Prelude.{◌≡◌, ◌+◌, ◌-◌, ◌^◌, ◌≤◌, ◌⊎◌, ℕ, min, List, ◌++◌, length, take, drop, Option, None, Some}

-- a count of faults went up by one at least, or it stands at the last value of its type
abbrev pub Rose : ℕ → ℕ → Type 0
Rose before now = min (before + 1) (2 ^ 64 - 1) ≤ now

-- nothing that is held changed
abbrev pub SameHeld : (List ℕ → Option (List ℕ)) → (List ℕ → Option (List ℕ)) → Type 0
SameHeld before now = (path : List ℕ) → now path ≡ before path

-- no count fell
abbrev pub NoneFell : (List ℕ → ℕ) → (List ℕ → ℕ) → Type 0
NoneFell before now = (path : List ℕ) → before path ≤ now path

-- so many bytes of what is held, from a place on, stand in front of the room; there are none only at the end, or
-- where there is no room
pub record Gives (bytes : List ℕ) (from count : ℕ) (room : List ℕ) : Type 0 where
  pub copied : take count room ≡ take count (drop from bytes)
  pub within : count ≤ length bytes - from
  pub ends : count ≡ 0 → (length bytes ≤ from) ⊎ (length room ≡ 0)

-- the piece stands behind what was taken before, where that is told
abbrev pub Takes : Option (List ℕ) → Option (List ℕ) → List ℕ → Type 0
Takes None now piece = now ≡ None
Takes (Some before) now piece = now ≡ Some (before ++ piece)

-- a front of the piece stands behind what was taken before
abbrev pub TakesFront : Option (List ℕ) → Option (List ℕ) → List ℕ → Type 0
TakesFront before now piece = (count : ℕ) × (count ≤ length piece) × Takes before now (take count piece)
