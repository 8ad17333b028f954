-- Ranks that rise along readings rule out cycles of latches.
use Rattle.std.specs.Prelude.{ℕ, ◌<◌, ◌≤◌, nat_lt, nat_le, ◌||◌, Bool, List}
use Rattle.std.specs.List.{Contains, list_all}
use Rattle.circuit_theory.specs.Cover.{Cover}
use Rattle.circuit_theory.specs.Circuit.{Circuit, Equation, Gate, Latch, Port, IsLatch}
use Rattle.circuit_theory.specs.Names.{is_among}

-- a gate or a port has no lower rank than what it reads, and a latch a higher one than what it takes over, but for those of removed names
pub record IsRanked {P : Type 0} (d : Circuit P) (removed : List (List ℕ)) (rank : P → ℕ) : Type 0 where
  pub gate : (out : P) (fanins : List P) (cover : Cover) → Contains d.equations (Gate out fanins cover) → (p : P) → Contains fanins p → rank p ≤ rank out
  pub port : (out from : P) → Contains d.equations (Port out from) → rank from ≤ rank out
  pub latch : (name : List ℕ) (out next : P) → IsLatch d name out next → (Contains removed name → ⊥) → rank next < rank out

-- the same, computed
abbrev pub is_rising : {P : Type 0} → List (List ℕ) → (P → ℕ) → Equation P → Bool
is_rising removed rank (Gate out fanins cover) = list_all (λ p. nat_le (rank p) (rank out)) fanins
is_rising removed rank (Latch name out next) = is_among removed name || nat_lt (rank next) (rank out)
is_rising removed rank (Port out from) = nat_le (rank from) (rank out)

abbrev pub is_ranked : {P : Type 0} → Circuit P → List (List ℕ) → (P → ℕ) → Bool
is_ranked d removed rank = list_all (is_rising removed rank) d.equations
