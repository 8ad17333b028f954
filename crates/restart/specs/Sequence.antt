-- Sequences that begin with the rows of a stimulus.
use Rattle.std.specs.Prelude.{◌≡◌, ℕ, ◌+◌, ◌≤◌, Bool, List, ◌++◌, length, Some, slice_get}
use Rattle.std.specs.List.{All}
use Rattle.flat_net.specs.View.{NetView, circuit_of}
use Rattle.witness_report.specs.declared.stimulus.Stimulus.{Stimulus}
use Rattle.witness_report.specs.declared.witness.Witness.{Witness}
use Rattle.witness_report.specs.Shown.{MakesDiffer}

-- under each name that both have the bits have the row's
abbrev pub IsRowUnder : List (List ℕ) → List Bool → List (List ℕ) → List Bool → Type 0
IsRowUnder header row names bits =
    (i j : ℕ) (name : List ℕ) (bit : Bool) → slice_get header i ≡ Some name → slice_get row i ≡ Some bit → slice_get names j ≡ Some name → slice_get bits j ≡ Some bit

-- one row for each, with a bit for each name
pub record AreRowsUnder (header : List (List ℕ)) (rows : List (List Bool)) (names : List (List ℕ)) (made : List (List Bool)) : Type 0 where
  pub size : length made ≡ length rows
  pub wide : All (λ (row : List Bool). length row ≡ length names) made
  pub each : (t : ℕ) (row bits : List Bool) → slice_get rows t ≡ Some row → slice_get made t ≡ Some bits → IsRowUnder header row names bits

-- in the cycles of the rows the sequence has their bits under each name that both have
abbrev pub BeginsWithRows : List (List ℕ) → List (List Bool) → Stimulus → Type 0
BeginsWithRows header rows s = (t : ℕ) (row : List Bool) → slice_get rows t ≡ Some row → (bits : List Bool) × (slice_get s.rows t ≡ Some bits) × IsRowUnder header row s.names bits

-- The sequence begins with the rows, and makes the circuits of both nets differ in its last cycle, which comes behind the rows.
pub record IsShownBehind (a b : NetView) (header : List (List ℕ)) (rows : List (List Bool)) (w : Witness) : Type 0 where
  pub begins : BeginsWithRows header rows w.stimulus
  pub behind : length rows ≤ w.cycle
  pub differ : MakesDiffer (circuit_of a) (circuit_of b) w

-- behind so many rows stand these, and no more
pub record StandBehind (count : ℕ) (rows all : List (List Bool)) : Type 0 where
  pub front : List (List Bool)
  pub counted : length front ≡ count
  pub are : all ≡ front ++ rows

-- behind so many rows the sequence of a difference goes on as this one, with whose last row it ends
pub record GoesOnAs (count : ℕ) (s : Stimulus) (w : Witness) : Type 0 where
  pub names_are : w.stimulus.names ≡ s.names
  pub rows_are : StandBehind count s.rows w.stimulus.rows
  pub cycle_is : w.cycle + 1 ≡ count + length s.rows
