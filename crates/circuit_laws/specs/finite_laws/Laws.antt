-- What is known of each flat net.
use Rattle.std.specs.Prelude.{ℕ, ◌⊎◌}
use Rattle.circuit_theory.specs.Circuit.{Circuit}
use Rattle.circuit_theory.specs.Run.{IsEnabled}
use Rattle.circuit_theory.specs.Net.{IsNet}
use Rattle.circuit_theory.specs.Joined.{Either, joined}

-- Each place is an enabled latch, or is none.
abbrev pub EnabledIsDecided : Type 0
EnabledIsDecided = (c : Circuit ℕ) (size : ℕ) → IsNet c size → (u : ℕ) → IsEnabled c u ⊎ (IsEnabled c u → ⊥)

-- The same of the places of two nets side by side.
abbrev pub EnabledIsDecidedBeside : Type 0
EnabledIsDecidedBeside = (a b : Circuit ℕ) (m n : ℕ) → IsNet a m → IsNet b n → (v : Either ℕ ℕ) → IsEnabled (joined a b) v ⊎ (IsEnabled (joined a b) v → ⊥)
