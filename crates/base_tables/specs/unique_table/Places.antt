-- An open table of the numbers of keys: at each place one more than a number, or 0 where the place is free.
use Rattle.std.specs.Prelude.{◌≡◌, ◌≢◌, ℕ, ◌+◌, ◌-◌, ◌*◌, ◌/◌, ◌%◌, ◌^◌, ◌<◌, ◌≤◌, List, [], ◌∷◌, ◌++◌, length, slice_get, slice_index_or, bit_and, bit_xor, Some, Contains, All, ◌⊎◌}

-- two numbers mixed to one
abbrev pub mixed_word : ℕ → ℕ
mixed_word word = (bit_xor word (word / 2 ^ 32) * 0xD6E8_FEB8_6659_FD93) % 2 ^ 64

unfoldable pub mixed : ℕ → ℕ → ℕ
mixed a b = mixed_word (((a * 0x1_0000_0000 + b) * 0x9E37_79B9_7F4A_7C15) % 2 ^ 64) / 2 ^ 32

-- the place of a step of the search in a table of this length
abbrev pub place_in : (ℕ → ℕ) → ℕ → ℕ → ℕ
place_in at len step = bit_and (at step) (len - 1)

-- what stands there
abbrev pub slot_at : (ℕ → ℕ) → List ℕ → ℕ → ℕ
slot_at at slots step = slice_index_or slots (place_in at (length slots) step) 0

-- none of the first places of the search is free
abbrev pub AreTaken : (ℕ → ℕ) → List ℕ → ℕ → Type 0
AreTaken at slots steps = (step : ℕ) → step < steps → slot_at at slots step ≢ 0

-- the number stands at a place of the search, and no place before is free
pub record Stands (at : ℕ → ℕ) (tries : ℕ) (slots : List ℕ) (number : ℕ) : Type 0 where
  pub step : ℕ
  pub early : step < tries
  pub inside : step < length slots
  pub here : slot_at at slots step ≡ number + 1
  pub taken : AreTaken at slots step

-- the place is the first of the search that is free
pub record IsFree (at : ℕ → ℕ) (tries : ℕ) (slots : List ℕ) (place : ℕ) : Type 0 where
  pub step : ℕ
  pub early : step < tries
  pub inside : step < length slots
  pub is : place ≡ place_in at (length slots) step
  pub within : place < length slots
  pub free : slice_index_or slots place 0 ≡ 0
  pub taken : AreTaken at slots step

-- no key stands twice
abbrev pub StandOnce : {K : Type 0} → List K → Type 0
StandOnce {K} keys = (i j : ℕ) (key : K) → slice_get keys i ≡ Some key → slice_get keys j ≡ Some key → i ≡ j

-- the keys with this one, which goes last if it isn't among them
abbrev pub IsWith : {K : Type 0} → List K → K → List K → Type 0
IsWith keys key new = (Contains keys key × (new ≡ keys)) ⊎ ((Contains keys key → ⊥) × (new ≡ keys ++ key ∷ []))

-- the table of the keys' numbers: each is found before a free place
pub record IsTable {K : Type 0} (place : K → ℕ → ℕ) (tries : ℕ) (keys : List K) (slots : List ℕ) : Type 0 where
  pub few : length keys < 2 ^ 32
  pub once : StandOnce keys
  pub within : All (λ slot. slot ≤ length keys) slots
  pub stand : (number : ℕ) (key : K) → slice_get keys number ≡ Some key → Stands (place key) tries slots number
