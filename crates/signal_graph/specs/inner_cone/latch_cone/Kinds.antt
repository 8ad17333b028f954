-- What a latch is by the cone of what it takes over.
use Rattle.std.specs.Prelude.{◌≡◌, ℕ, Bool, true, false, List, length, slice_get, Some}
use Rattle.flat_net.specs.circuit_theory.Circuit.{Circuit, IsLatch, InCone}
use Rattle.flat_net.specs.circuit_theory.Run.{IsEnabled}
use Rattle.flat_net.specs.circuit_theory.Mode.{Mode}
use Rattle.flat_net.specs.circuit_theory.Mode.TheVariants.{Plain, Event}
use Rattle.flat_net.specs.declared.parts.LatchAt.{LatchAt}
use Rattle.flat_net.specs.View.{NetView, circuit_of}
use Rattle.signal_graph.specs.declared.inner_cone.latch_cone.kinds.LatchKind.{LatchKind}
use Rattle.signal_graph.specs.declared.inner_cone.latch_cone.kinds.LatchKind.TheVariants as kind

-- the latch at this place is in the cone of what it takes over
pub record IsInOwnCone {P : Type 0} (c : Circuit P) (u : P) : Type 0 where
  pub name : List ℕ
  pub next : P
  pub latch : IsLatch c name u next
  pub cone : InCone c next u

-- The kind of the latch at this place. In the plain mode each is of the kind `plain`.
abbrev pub IsKindIn : {P : Type 0} → Mode → Circuit P → P → LatchKind → Type 0
IsKindIn Plain c u kind.Plain = Unit {0}
IsKindIn Plain c u kind.Enabled = ⊥
IsKindIn Plain c u kind.NotUnate = ⊥
IsKindIn Event c u kind.Plain = IsInOwnCone c u → ⊥
IsKindIn Event c u kind.Enabled = IsEnabled c u
IsKindIn Event c u kind.NotUnate = IsInOwnCone c u × (IsEnabled c u → ⊥)

-- the kinds of the net's latches, in their order
pub record AreKindsIn (mode : Mode) (n : NetView) (kinds : List LatchKind) : Type 0 where
  pub each : length kinds ≡ length n.latches
  pub right : (j : ℕ) (l : LatchAt) (k : LatchKind) → slice_get n.latches j ≡ Some l → slice_get kinds j ≡ Some k → IsKindIn mode (circuit_of n) l.out.0 k

abbrev pub is_enabled : LatchKind → Bool
is_enabled kind.Plain = false
is_enabled kind.Enabled = true
is_enabled kind.NotUnate = false
