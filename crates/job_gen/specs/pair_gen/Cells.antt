-- The cells of a generated circuit: three stages of 42 layers of 40 columns of gates, and forty latches to each stage. In A the latches
-- of a stage stand behind its last layer, in B before it.
use Rattle.std.specs.Prelude.{ℕ, zero, suc, ◌+◌, ◌/◌, ◌%◌, ◌==◌, if◌then◌else◌, List, ◌++◌, codes}
use Rattle.std.specs.Fmt.{decimal}
use Rattle.circuit_theory.specs.declared.Side.{Side}
use Rattle.circuit_theory.specs.declared.Side.TheVariants.{A, B}
use Rattle.job_gen.specs.declared.pair_gen.cells.Cell.{Cell}
use Rattle.job_gen.specs.declared.pair_gen.cells.Cell.TheVariants.{Input, Latch, Gate}

-- the name of a latch's column
abbrev pub latch_letter : Side → List ℕ
latch_letter A = codes "q"
latch_letter B = codes "r"

-- the name of a cell, and of an output
abbrev pub name_of : Side → Cell → List ℕ
name_of circuit (Input c) = codes "x" ++ decimal c
name_of circuit (Latch s c) = latch_letter circuit ++ decimal s ++ codes "_" ++ decimal c
name_of circuit (Gate s l c) = codes "g" ++ decimal s ++ codes "_" ++ decimal l ++ codes "_" ++ decimal c

abbrev pub output_name : ℕ → List ℕ
output_name c = codes "y" ++ decimal c

-- what the gates of a layer of a stage read as a column: the column of the layer before, or of the latches that stand between
abbrev pub column_of : Side → ℕ → ℕ → ℕ → Cell
column_of circuit zero zero c = Input c
column_of A (suc s) zero c = Latch s c
column_of B (suc s) zero c = Gate s 41 c
column_of A s (suc l) c = Gate s l c
column_of B s (suc l) c = if l == 40 then Latch s c else Gate s l c

-- what the latch of a stage and column takes over
abbrev pub data_of : Side → ℕ → ℕ → Cell
data_of A s c = Gate s 41 c
data_of B s c = Gate s 40 c

-- what the output of a column shows
abbrev pub shown_by : Side → ℕ → Cell
shown_by A c = Latch 2 c
shown_by B c = Gate 2 41 c

-- the second column that a gate reads, by its word; the first is its own
abbrev pub second_of : ℕ → ℕ → ℕ
second_of w c = (c + 1 + w / 4 % 39) % 40
