-- Outputs by their places.
use Rattle.std.specs.Prelude.{ℕ, [], slice_index_or}
use Rattle.flat_net.specs.declared.parts.Port.{Port}
use Rattle.flat_net.specs.View.{NetView}

-- stands where there is no output
abbrev pub no_port : Port
no_port = record { name = []; signal = record { 0 = 0 } }

-- the output at a place
abbrev pub output_at : NetView → ℕ → Port
output_at n i = slice_index_or n.outputs i no_port
