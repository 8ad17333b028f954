-- A flat net: a circuit over numbers whose gates read lower numbers alone.
use Rattle.std.specs.Prelude.{◌≡◌, ◌≢◌, ℕ, ◌<◌, ◌⊎◌, List}
use Rattle.std.specs.List.{All, AllPairs, Contains}
use Rattle.circuit_theory.specs.Circuit.{Circuit, Equation, Gate, Latch, Port, IsInput, IsLatch, IsSingleDriven, out_of}

-- a gate reads lower signals alone; a net has no ports
abbrev pub IsAbove : Equation ℕ → Type 0
IsAbove (Gate out fanins cover) = All (λ f. f < out) fanins
IsAbove (Latch name out next) = Unit {0}
IsAbove (Port out from) = ⊥

-- the signals that the equation drives and takes over are below the size
abbrev pub IsWithin : ℕ → Equation ℕ → Type 0
IsWithin size (Gate out fanins cover) = out < size
IsWithin size (Latch name out next) = (out < size) × (next < size)
IsWithin size (Port out from) = ⊥

-- an input or an equation drives the signal
abbrev pub IsDriven : Circuit ℕ → ℕ → Type 0
IsDriven c s = IsInput c s ⊎ ((e : Equation ℕ) × Contains c.equations e × (out_of e ≡ s))

-- A flat net of so many signals: each has one driver, no two inputs are one signal, and gates form no loop.
pub record IsNet (c : Circuit ℕ) (size : ℕ) : Type 0 where
  pub single : IsSingleDriven c
  pub inputs : AllPairs (λ i j. i.place ≢ j.place) c.inputs
  pub above : All IsAbove c.equations
  pub within : All (IsWithin size) c.equations
  pub driven : (s : ℕ) → s < size → IsDriven c s

-- Names tell inputs and latches apart: none is that of two inputs, of two latches, or of an input and a latch.
pub record HasDistinctNames {P : Type 0} (c : Circuit P) : Type 0 where
  pub inputs : (name : List ℕ) (p q : P) → Contains c.inputs (record { name = name; place = p }) → Contains c.inputs (record { name = name; place = q }) → p ≡ q
  pub latches : (name : List ℕ) (u next v next' : P) → IsLatch c name u next → IsLatch c name v next' → u ≡ v
  pub apart : (name : List ℕ) (p u next : P) → Contains c.inputs (record { name = name; place = p }) → IsLatch c name u next → ⊥
