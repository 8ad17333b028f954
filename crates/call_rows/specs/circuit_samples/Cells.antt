-- Small circuits without feedback, as a list of cells that read earlier ones.
use Rattle.std.specs.Prelude.{◌≡◌, ℕ, suc, ◌<◌, true, List, [], ◌∷◌, map, Option, Some, None, slice_get, codes}
use Rattle.std.specs.List.{cons_option}
use Rattle.call_rows.specs.declared.circuit_samples.cells.Cell.{Cell}
use Rattle.call_rows.specs.declared.circuit_samples.cells.Cell.TheVariants.{Input, Delay, Nand}
use Rattle.circuit_theory.specs.Cover.{Cover}
use Rattle.circuit_theory.specs.Circuit.{Circuit, Equation, Gate, Latch, Named}

-- 1 where one of two fan-ins is 0
abbrev pub nand_cover : Cover
nand_cover = record { width = 2; rows = codes "0-" ∷ codes "-0" ∷ []; on = true }

-- the input that a cell is, if any; a signal's name is its number
abbrev pub cell_input : ℕ → Cell → Option (Named ℕ)
cell_input n Input = Some (record { name = n ∷ []; place = n })
cell_input n (Delay from) = None
cell_input n (Nand left right) = None

-- the equation that a cell is, if any
abbrev pub cell_equation : ℕ → Cell → Option (Equation ℕ)
cell_equation n Input = None
cell_equation n (Delay from) = Some (Latch (n ∷ []) n from)
cell_equation n (Nand left right) = Some (Gate n (left ∷ right ∷ []) nand_cover)

-- what the cells give, each with its number
abbrev pub from_cells : {X : Type 0} → (ℕ → Cell → Option X) → ℕ → List Cell → List X
from_cells f n [] = []
from_cells f n (cell ∷ cells) = cons_option (f n cell) (from_cells f (suc n) cells)

-- the circuit of the cells: signal i is cell i
abbrev pub circuit_of : List Cell → Circuit ℕ
circuit_of cells = record { inputs = from_cells cell_input 0 cells; outputs = []; equations = from_cells cell_equation 0 cells; starts = [] }

-- each input has its signal as its number
abbrev pub numbers_of : List Cell → List ℕ
numbers_of cells = map (λ i. i.place) (from_cells cell_input 0 cells)

-- what the cell reads stands before it
abbrev pub ReadsBefore : ℕ → Cell → Type 0
ReadsBefore n Input = Unit {0}
ReadsBefore n (Delay from) = from < n
ReadsBefore n (Nand left right) = (left < n) × (right < n)

-- each cell reads earlier ones: there is no feedback
abbrev pub ReadEarlier : List Cell → Type 0
ReadEarlier cells = (n : ℕ) (cell : Cell) → slice_get cells n ≡ Some cell → ReadsBefore n cell
