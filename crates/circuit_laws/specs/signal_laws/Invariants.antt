-- Inductive invariants of a circuit with initial values.
use Rattle.std.specs.Prelude.{◌≡◌, ℕ, Bool, List}
use Rattle.std.specs.List.{All, Contains}
use Rattle.circuit_theory.specs.Circuit.{Circuit, Carries, Meets}
use Rattle.circuit_theory.specs.Tree.{IsInputNumber}

-- values of a cycle, in which inputs of one number have one value
pub record IsCycle {P : Type 0} (c : Circuit P) (order : List ℕ) (x : P → Bool) : Type 0 where
  pub meets : Meets c x
  pub inputs : (p q : P) (i : ℕ) → IsInputNumber c order p i → IsInputNumber c order q i → x p ≡ x q

-- values of a cycle in which each latch has its initial value, if it has one
pub record IsFirstCycle {P : Type 0} (c : Circuit P) (order : List ℕ) (x : P → Bool) : Type 0 where
  pub cycle : IsCycle c order x
  pub starts : (p : P) (bit : Bool) → Contains c.starts (record { place = p; bit = bit }) → x p ≡ bit

-- values of a cycle and of the next one
pub record AreSuccessive {P : Type 0} (c : Circuit P) (order : List ℕ) (x y : P → Bool) : Type 0 where
  pub now : IsCycle c order x
  pub next : IsCycle c order y
  pub carries : All (Carries x y) c.equations

-- a property of the values of a cycle that each first cycle has, and each cycle that follows on one that has it
pub record IsInductiveInvariant {P : Type 0} (c : Circuit P) (order : List ℕ) (good : (P → Bool) → Type 0) : Type 0 where
  pub begins : (x : P → Bool) → IsFirstCycle c order x → good x
  pub steps : (x y : P → Bool) → AreSuccessive c order x y → good x → good y
