-- Inductive partitions of latches, for circuits with initial values.
use Rattle.std.specs.Prelude.{◌≡◌, ◌≢◌, ℕ, Bool, List}
use Rattle.std.specs.List.{Contains}
use Rattle.circuit_theory.specs.Circuit.{Circuit, IsLatch, Meets}
use Rattle.circuit_theory.specs.Tree.{IsInputNumber}

-- values that are one on inputs of one number, and on latches of one block
pub record IsConstantOn {P : Type 0} (c : Circuit P) (order : List ℕ) (block : P → ℕ) (x : P → Bool) : Type 0 where
  pub inputs : (p q : P) (i : ℕ) → IsInputNumber c order p i → IsInputNumber c order q i → x p ≡ x q
  pub latches : (name name' : List ℕ) (u next v next' : P) → IsLatch c name u next → IsLatch c name' v next' → block u ≡ block v → x u ≡ x v

-- Two latches with one block number have one initial value, and one value in the next cycle for all values that are constant on each block.
pub record IsInductive {P : Type 0} (c : Circuit P) (order : List ℕ) (block : P → ℕ) : Type 0 where
  pub starts : (name name' : List ℕ) (u next v next' : P) → IsLatch c name u next → IsLatch c name' v next' → u ≢ v → block u ≡ block v →
      (bit : Bool) × Contains c.starts (record { place = u; bit = bit }) × Contains c.starts (record { place = v; bit = bit })
  pub steps : (x : P → Bool) → Meets c x → IsConstantOn c order block x →
      (name name' : List ℕ) (u next v next' : P) → IsLatch c name u next → IsLatch c name' v next' → block u ≡ block v → x next ≡ x next'

-- what is one block in a partition is one in the other
abbrev pub Refines : {P : Type 0} → Circuit P → (P → ℕ) → (P → ℕ) → Type 0
Refines {P} c fine coarse = (name name' : List ℕ) (u next v next' : P) → IsLatch c name u next → IsLatch c name' v next' → fine u ≡ fine v → coarse u ≡ coarse v

-- an inductive partition that each other one refines
pub record IsCoarsest {P : Type 0} (c : Circuit P) (order : List ℕ) (block : P → ℕ) : Type 0 where
  pub inductive : IsInductive c order block
  pub coarsest : (other : P → ℕ) → IsInductive c order other → Refines c other block
