-- The least frame that tells an enable from another, or from 1.
use Rattle.std.specs.Prelude.{◌≡◌, ℕ, ◌<◌, ◌≤◌, Bool, true, List, length, Option, Some, None}
use Rattle.circuit_theory.specs.Classes.{EnableCare, EnableAtRoot}
use Rattle.circuit_theory.specs.EventFrames.{frame_of}
use Rattle.circuit_theory.specs.Frame.{EventSide}
use Rattle.circuit_theory.specs.Joined.{Either}
use Rattle.circuit_theory.specs.Query.{Variable, bits_of}
use Rattle.sec_base.specs.declared.basics.Tag.{Tag}

-- both enables have care in the frame, and don't have one value there
abbrev pub DifferIn : {P : Type 0} → EventSide P → P → P → (ℕ → List ℕ → Bool) → Type 0
DifferIn s u v bits = EnableCare s bits u × EnableCare s bits v × ((x : Bool) → EnableAtRoot s bits u x → EnableAtRoot s bits v x → ⊥)

-- the enable has care in the frame, and isn't 1 there
abbrev pub IsOffIn : {P : Type 0} → EventSide P → P → (ℕ → List ℕ → Bool) → Type 0
IsOffIn s u bits = EnableCare s bits u × (EnableAtRoot s bits u true → ⊥)

-- the frame tells the latch of the higher class from that of the lower one, or from `always`
abbrev pub TellsIn : EventSide (Either ℕ ℕ) → (Tag → Either ℕ ℕ) → Option Tag → Tag → (ℕ → List ℕ → Bool) → Type 0
TellsIn s place None high = IsOffIn s (place high)
TellsIn s place (Some low) high = DifferIn s (place low) (place high)

-- For at most 16 variables the bits are those of the least number whose frame tells, the first variable being the lowest bit.
abbrev pub IsLeastFrame : ((ℕ → List ℕ → Bool) → Type 0) → List (Variable (List ℕ)) → List Bool → Type 0
IsLeastFrame Tells variables bits =
    length variables ≤ 16 → (number : ℕ) × (bits ≡ bits_of number (length variables)) × ((m : ℕ) → m < number → Tells (frame_of variables (bits_of m (length variables))) → ⊥)
