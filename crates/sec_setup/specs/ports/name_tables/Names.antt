-- The names of a net's inputs and latches.
use Rattle.std.specs.Prelude.{ℕ, List, map}
use Rattle.flat_net.specs.declared.parts.Port.{Port}
use Rattle.flat_net.specs.declared.parts.LatchAt.{LatchAt}
use Rattle.flat_net.specs.View.{NetView}

-- the names of the inputs, in the net's order
abbrev pub input_names : NetView → List (List ℕ)
input_names n = map (λ (p : Port). p.name) n.inputs

-- the names of the latches, in the net's order
abbrev pub latch_names : NetView → List (List ℕ)
latch_names n = map (λ (l : LatchAt). l.name) n.latches
