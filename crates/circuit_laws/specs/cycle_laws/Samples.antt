-- Two circuits with feedback, and what shows them apart.
use Rattle.std.specs.Prelude.{ℕ, true, false, [], ◌∷◌}
use Rattle.circuit_theory.specs.Cover.{Cover}
use Rattle.circuit_theory.specs.Circuit.{Circuit, Gate, Latch}
use Rattle.circuit_laws.specs.reset_laws.Reset.{MakesDifferFromReset}

-- the complement of one fan-in
abbrev pub turned : Cover
turned = record { width = 1; rows = (48 ∷ []) ∷ []; on = true }

-- a latch that begins with 0 and takes over its complement
abbrev pub toggle : Circuit ℕ
toggle = record { inputs = []; outputs = record { name = 111 ∷ []; place = 0 } ∷ []; equations = Latch (117 ∷ []) 0 1 ∷ Gate 1 (0 ∷ []) turned ∷ []; starts = record { place = 0; bit = false } ∷ [] }

-- one that begins with 0 and keeps it
abbrev pub stuck : Circuit ℕ
stuck = record { inputs = []; outputs = record { name = 111 ∷ []; place = 0 } ∷ []; equations = Latch (117 ∷ []) 0 0 ∷ []; starts = record { place = 0; bit = false } ∷ [] }

abbrev pub ToggleDiffers : Type 0
ToggleDiffers = MakesDifferFromReset toggle stuck [] [] 0 0 ([] ∷ [] ∷ []) (false ∷ []) (false ∷ []) 1 true false
