-- The signals that a signal is reached from.
use Rattle.std.specs.Prelude.{◌↔◌, ℕ, ◌<◌, List, All, Contains}
use Rattle.std.specs.List.Sorted.{IsStrictlyIncreasing}
use Rattle.circuit_theory.specs.Circuit.{Circuit, Reaches}

-- exactly the signals that are reached from one, each once, increasing
pub record AreReached (c : Circuit ℕ) (size from : ℕ) (signals : List ℕ) : Type 0 where
  pub increasing : IsStrictlyIncreasing signals
  pub within : All (λ s. s < size) signals
  pub exactly : (s : ℕ) → Contains signals s ↔ Reaches c from s
