use Rattle.std.proofs.Common.{◌≡◌, ◌<◌, ℕ, slice_get, Some}
use Rattle.call_rows.specs.declared.circuit_samples.cells.Cell.{Cell}
use Rattle.call_rows.specs.circuit_samples.Cells.{ReadsBefore}
use Rattle.call_rows.proofs.circuit_samples.cells.read_earlier.Given as goal

-- the cells so far read earlier ones
abbrev pub invariant-loop-number : goal.invariant-loop-number
invariant-loop-number l = (n : ℕ) (cell : Cell) → n < l.number → slice_get l.cells n ≡ Some cell → ReadsBefore n cell
