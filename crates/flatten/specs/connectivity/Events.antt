-- The first of the events in a row.
use Rattle.std.specs.Prelude.{◌≡◌, ℕ, ◌<◌, List, Some, slice_get}

-- the event at p is the first
pub record IsFirst {P : Type 0} (Event : ℕ → P → Type 0) (p : P) : Type 0 where
  pub at : ℕ
  pub here : Event at p
  pub before : (i : ℕ) (q : P) → i < at → Event i q → ⊥

-- there is no event
abbrev pub IsNever : {P : Type 0} → (ℕ → P → Type 0) → Type 0
IsNever {P} Event = (i : ℕ) (q : P) → Event i q → ⊥

-- the i-th item is one of those that are meant, and is named p
pub record IsAt {X P : Type 0} (items : List X) (name : X → P) (Meant : X → Type 0) (i : ℕ) (p : P) : Type 0 where
  pub item : X
  pub here : slice_get items i ≡ Some item
  pub meant : Meant item
  pub called : name item ≡ p
