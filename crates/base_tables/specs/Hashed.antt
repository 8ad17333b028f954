-- Names, and the hashes of the first of them in an open table.
use Rattle.std.specs.Prelude.{◌≡◌, ℕ, ◌*◌, ◌/◌, ◌%◌, ◌^◌, ◌<◌, ◌≤◌, List, [], ◌∷◌, length, slice_get, bit_xor, Option, Some}
use Rattle.base_tables.specs.Table.{AreDistinct}

-- one byte more, and all bytes, by the hash of Fowler, Noll and Vo
abbrev pub hash_more : ℕ → ℕ → ℕ
hash_more state byte = (bit_xor state byte * 0x100_0000_01B3) % 2 ^ 64

abbrev pub hash_after : ℕ → List ℕ → ℕ
hash_after state [] = state
hash_after state (byte ∷ bytes) = hash_after (hash_more state byte) bytes

-- the hash of a name, in two halves
unfoldable pub hash_of : List ℕ → ℕ × ℕ
hash_of name = (hash_after 0xCBF2_9CE4_8422_2325 name / 2 ^ 32, hash_after 0xCBF2_9CE4_8422_2325 name % 2 ^ 32)

-- each of the first names has its hash at its place, and each later one has the number of its place
pub record IsNameTable (names : List (List ℕ)) (hashes : List (ℕ × ℕ)) (number : List ℕ → Option ℕ) : Type 0 where
  pub few : length names < 2 ^ 32
  pub once : AreDistinct names
  pub first : length hashes ≤ length names
  pub hashed : (name : List ℕ) (i : ℕ) → slice_get names i ≡ Some name → i < length hashes → slice_get hashes i ≡ Some (hash_of name)
  pub here : (name : List ℕ) (i : ℕ) → number name ≡ Some i → slice_get names i ≡ Some name
  pub later : (name : List ℕ) (i : ℕ) → slice_get names i ≡ Some name → length hashes ≤ i → number name ≡ Some i
