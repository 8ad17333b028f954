-- The circuit of numbered flat statements.
use Rattle.std.specs.Prelude.{◌≡◌, ℕ, List, Option, Some, slice_index_or}
use Rattle.circuit_theory.specs.Circuit.{Circuit}
use Rattle.circuit_theory.specs.Flattened.{Follows}
use Rattle.blif_read.specs.declared.design.BlifModel.{BlifModel}
use Rattle.elaborate.specs.declared.flat.Flat.{Flat}
use Rattle.elaborate.specs.Flat.{view_of, circuit_of_flat}
use Rattle.flatten.specs.connectivity.Wired.{WiredView}
use Rattle.flatten.specs.Gated.{made_by}

-- the circuit of the numbered statements, without the clock among its inputs
abbrev pub numbered_circuit : List BlifModel → Flat → WiredView → Circuit ℕ
numbered_circuit models flat wired = circuit_of_flat flat.names (view_of models flat) wired.clock

-- ports lead back from the number to the clock
abbrev pub IsClockNumber : Circuit ℕ → Option ℕ → ℕ → Type 0
IsClockNumber d clock n = (c : ℕ) × (clock ≡ Some c) × Follows d n c

-- the number at which a signal of the net is driven
abbrev pub number_at : Flat → WiredView → List ℕ → ℕ → ℕ
number_at flat wired order s = slice_index_or (made_by flat wired order) s 0
