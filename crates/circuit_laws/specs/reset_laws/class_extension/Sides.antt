-- Starts of the unfoldings of two circuits, by themselves and side by side.
use Rattle.std.specs.Prelude.{◌≡◌, ◌⊎◌, ℕ, List, Option, Some, None, Contains}
use Rattle.circuit_theory.specs.Circuit.{Circuit, IsLatch}
use Rattle.circuit_theory.specs.Joined.{Either, Left, Right}
use Rattle.circuit_theory.specs.EventSizes.{Start}

-- the latch that is left out, as one of a greater circuit
abbrev pub moved_out : {P R : Type 0} → (P → R) → Option P → Option R
moved_out f None = None
moved_out f (Some u) = Some (f u)

-- the start, as one of a greater circuit
abbrev pub moved_start : {P R : Type 0} → (P → R) → Start P → Start R
moved_start f x = record { place = f x.place; left_out = moved_out f x.left_out }

-- the starts of two circuits side by side are these of the first one and these of the second one
pub record AreStartsOfBoth (starts : List (Start (Either ℕ ℕ))) (lefts rights : List (Start ℕ)) : Type 0 where
  pub left : (x : Start ℕ) → Contains lefts x → Contains starts (moved_start Left x)
  pub right : (x : Start ℕ) → Contains rights x → Contains starts (moved_start Right x)
  pub all : (y : Start (Either ℕ ℕ)) → Contains starts y → ((x : Start ℕ) × Contains lefts x × (y ≡ moved_start Left x)) ⊎ ((x : Start ℕ) × Contains rights x × (y ≡ moved_start Right x))

-- the start is that of the enable of a latch among these
abbrev pub IsEnableAmong : Circuit ℕ → (ℕ → Either ℕ ℕ) → List (Either ℕ ℕ) → Start ℕ → Type 0
IsEnableAmong c place latches x = (name : List ℕ) × (u : ℕ) × IsLatch c name u x.place × (x.left_out ≡ Some u) × Contains latches (place u)
