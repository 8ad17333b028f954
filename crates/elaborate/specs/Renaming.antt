-- A circuit that is another with its places numbered.
use Rattle.std.specs.Prelude.{◌≡◌, ℕ, ◌<◌, map}
use Rattle.std.specs.List.{All, Contains}
use Rattle.circuit_theory.specs.Circuit.{Circuit, Equation, Gate, Latch, Port, Named}
use Rattle.circuit_theory.specs.Joined.{moved, moved_name}

-- each signal of the equation is below the size
abbrev pub IsBelow : ℕ → Equation ℕ → Type 0
IsBelow size (Gate out fanins cover) = (out < size) × ((f : ℕ) → Contains fanins f → f < size)
IsBelow size (Latch name out next) = (out < size) × (next < size)
IsBelow size (Port out from) = (out < size) × (from < size)

-- The design's inputs, outputs and equations are the net's, each signal s read as the place `origin s`; `number` gives
-- the signal back.
pub record IsRenaming {P : Type 0} (d : Circuit P) (net : Circuit ℕ) (size : ℕ) (origin : ℕ → P) (number : P → ℕ) : Type 0 where
  pub inputs : map (moved_name origin) net.inputs ≡ d.inputs
  pub outputs : map (moved_name origin) net.outputs ≡ d.outputs
  pub equations : map (moved origin) net.equations ≡ d.equations
  pub below : All (IsBelow size) net.equations
  pub inputs_below : All (λ (i : Named ℕ). i.place < size) net.inputs
  pub outputs_below : All (λ (o : Named ℕ). o.place < size) net.outputs
  pub back : (s : ℕ) → s < size → number (origin s) ≡ s
