-- The places of unfoldings from the initial values: a cycle and a signal.
use Rattle.std.specs.Prelude.{◌≡◌, ◌⊎◌, ℕ, ◌+◌, List, map, Some, slice_get, Contains}
use Rattle.circuit_theory.specs.Circuit.{Circuit}
use Rattle.circuit_theory.specs.Cone.{latches_of}
use Rattle.circuit_theory.specs.Tree.{IsInputNumber}
use Rattle.circuit_laws.specs.reset_laws.Reset.{IsFree}
use Rattle.circuit_laws.specs.reset_laws.Weight.{PlaceInCycle, ResetVisits}

-- the place as the weight of unfoldings names it
abbrev pub in_cycle : ℕ × ℕ → PlaceInCycle ℕ
in_cycle p = record { place = p.1; cycle = p.0 }

-- these places, where unfoldings begin
abbrev pub starts_of : List (ℕ × ℕ) → List (PlaceInCycle ℕ)
starts_of done = map in_cycle done

-- one of the unfoldings that begin at these places visits this one
pub record IsVisited (c : Circuit ℕ) (done : List (ℕ × ℕ)) (p : ℕ × ℕ) : Type 0 where
  pub from : ℕ × ℕ
  pub among : Contains done from
  pub visits : ResetVisits c from.1 from.0 p.1 p.0

-- the place is that of a latch without an initial value in cycle 0, whose variable has this number
abbrev pub IsFreeAt : Circuit ℕ → ℕ → ℕ × ℕ → ℕ → Type 0
IsFreeAt c base p number = (p.0 ≡ 0) × (j : ℕ) × (slice_get (latches_of c) j ≡ Some p.1) × IsFree c p.1 × (base + j ≡ number)

-- a variable stands for the place, by its number: that of an input, or of a latch without an initial value in cycle 0
abbrev pub IsLeafAt : Circuit ℕ → List ℕ → ℕ → ℕ × ℕ → ℕ → Type 0
IsLeafAt c order base p number = IsInputNumber c order p.1 number ⊎ IsFreeAt c base p number
