-- Numbers of keys, in the order in which these first come.
use Rattle.std.specs.Prelude.{◌≡◌, ℕ, ◌<◌, ◌≤◌, Bool, if◌then◌else◌, List, length, slice_get, Some}
use Rattle.sec_base.specs.declared.basics.Init.{Init}
use Rattle.sec_base.specs.declared.basics.Init.TheVariants as init
use Rattle.block_refine.specs.latch_blocks.Blocks.{block_at, bit_at, start_at, AreInOrder}

-- The number of each place so far is where its key stands in the table, and each place of the table is the number of one.
pub record IsNumberedBy (key : ℕ → ℕ × ℕ) (table : List (ℕ × ℕ)) (numbers : List ℕ) : Type 0 where
  pub keys : (j : ℕ) → j < length numbers → slice_get table (block_at numbers j) ≡ Some (key j)
  pub met : (y : ℕ) → y < length table → (i : ℕ) × (i < length numbers) × (block_at numbers i ≡ y)
  pub in_order : AreInOrder numbers
  pub few : length table ≤ length numbers

-- what is told apart by a split
abbrev pub split_key : List ℕ → List Bool → ℕ → ℕ × ℕ
split_key blocks bits j = (block_at blocks j, (if bit_at bits j then 1 else 0))

-- which initial value it is: 0, 1, or neither
abbrev pub start_kind : Init → ℕ
start_kind init.Zero = 0
start_kind init.One = 1
start_kind x = 2

-- what tells latches that start with neither apart
abbrev pub start_rest : Init → ℕ → ℕ
start_rest init.Zero place = 0
start_rest init.One place = 0
start_rest x place = place

-- what is told apart by the initial values
abbrev pub start_key : List Init → ℕ → ℕ × ℕ
start_key starts j = (start_kind (start_at starts j), start_rest (start_at starts j) j)
