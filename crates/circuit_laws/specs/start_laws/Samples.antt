-- Latches that a reset sets, and latches that it leaves.
use Rattle.std.specs.Prelude.{◌≡◌, ℕ, ◌+◌, ◌<◌, ◌≤◌, Bool, true, false, List, [], ◌∷◌, None}
use Rattle.circuit_theory.specs.Cover.{Cover}
use Rattle.circuit_theory.specs.Circuit.{Circuit, Gate, Latch}
use Rattle.circuit_theory.specs.Run.{IsRun, IsResetRun}
use Rattle.circuit_laws.specs.start_laws.Known.{Forces, cover_three, IsKnown, BeginsWith, restarted, AreStartsAfter}

-- neither fan-in
abbrev pub neither : Cover
neither = record { width = 2; rows = (48 ∷ 48 ∷ []) ∷ []; on = true }

-- an input r, a latch that toggles where r is 0 and else takes 0, and a latch that keeps its value; none has an initial value
abbrev pub resettable : Circuit ℕ
resettable = record {
  inputs = record { name = 114 ∷ []; place = 0 } ∷ [];
  outputs = record { name = 111 ∷ []; place = 1 } ∷ [];
  equations = Latch (117 ∷ []) 1 2 ∷ Gate 2 (0 ∷ 1 ∷ []) neither ∷ Latch (118 ∷ []) 3 3 ∷ [];
  starts = [];
}

-- one cycle with r at 1
abbrev pub reset_row : List (List Bool)
reset_row = (true ∷ []) ∷ []

abbrev pub ResetIsKnown : Type 0
ResetIsKnown = AreStartsAfter resettable (0 ∷ []) reset_row (record { place = 1; bit = false } ∷ [])
    × ((t : ℕ) (bit : Bool) → IsKnown resettable (0 ∷ []) reset_row t 3 bit → ⊥)
    × ((n m : ℕ) (run : ℕ → ℕ → Bool) → IsRun resettable n run → BeginsWith resettable (0 ∷ []) reset_row run → 1 < n → m + 1 ≤ n →
    IsResetRun (restarted (record { place = 1; bit = false } ∷ []) resettable) m (λ s. run (s + 1)))

-- a bit, or its complement
abbrev pub either_way : Cover
either_way = record { width = 1; rows = (49 ∷ []) ∷ (48 ∷ []) ∷ []; on = true }

abbrev pub CoversAreNotExact : Type 0
CoversAreNotExact = Forces either_way (None ∷ []) true × (cover_three either_way (None ∷ []) ≡ None)
