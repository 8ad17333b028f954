-- Partitions of the latches of a circuit, and functions that are equal over their blocks.
use Rattle.std.specs.Prelude.{◌≡◌, ◌≢◌, ◌↔◌, ℕ, Bool, List}
use Rattle.std.specs.List.{Contains}
use Rattle.circuit_theory.specs.Circuit.{Circuit, IsLatch, Meets}
use Rattle.circuit_theory.specs.Joined.{Either, Left, Right, joined}
use Rattle.circuit_theory.specs.Blocks.{IsConstantOn, IsInductive, Refines}

-- both latches have this initial value
abbrev pub ShareStart : {P : Type 0} → Circuit P → P → P → Type 0
ShareStart c u v = (bit : Bool) × Contains c.starts (record { place = u; bit = bit }) × Contains c.starts (record { place = v; bit = bit })

-- latches of one initial value 0 or 1 are one block, and each other latch is a block of its own
abbrev pub IsInitial : {P : Type 0} → Circuit P → (P → ℕ) → Type 0
IsInitial {P} c block = (name name' : List ℕ) (u next v next' : P) → IsLatch c name u next → IsLatch c name' v next' → u ≢ v → block u ≡ block v ↔ ShareStart c u v

-- each inductive partition refines this one
abbrev pub IsCoarser : {P : Type 0} → Circuit P → List ℕ → (P → ℕ) → Type 0
IsCoarser {P} c order block = (other : P → ℕ) → IsInductive c order other → Refines c other block

-- two latches are in one block of the finer partition where they were in one block and take over one value under x
abbrev pub IsSplitBy : {P : Type 0} → Circuit P → (P → ℕ) → (P → Bool) → (P → ℕ) → Type 0
IsSplitBy {P} c block x fine = (name name' : List ℕ) (u next v next' : P) → IsLatch c name u next → IsLatch c name' v next' → fine u ≡ fine v ↔ ((block u ≡ block v) × (x next ≡ x next'))

-- two partitions have the same blocks
abbrev pub HaveSameBlocks : {P : Type 0} → Circuit P → (P → ℕ) → (P → ℕ) → Type 0
HaveSameBlocks c block other = Refines c block other × Refines c other block

-- the two places have one value for all values that are constant on the blocks
abbrev pub AreEqualOver : Circuit ℕ → Circuit ℕ → List ℕ → (Either ℕ ℕ → ℕ) → ℕ → ℕ → Type 0
AreEqualOver a b order block p q = (x : Either ℕ ℕ → Bool) → Meets (joined a b) x → IsConstantOn (joined a b) order block x → x (Left p) ≡ x (Right q)
