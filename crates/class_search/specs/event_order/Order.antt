-- The enabled latches of two nets in the order in which they are given classes.
use Rattle.std.specs.Prelude.{◌≡◌, ℕ, ◌<◌, Bool, List, length, map}
use Rattle.circuit_theory.specs.declared.Mode.TheVariants.{Event}
use Rattle.circuit_theory.specs.declared.Side.{Side}
use Rattle.circuit_theory.specs.declared.Side.TheVariants.{A, B}
use Rattle.circuit_theory.specs.Depth.{LatchesHaveDepths}
use Rattle.circuit_theory.specs.Joined.{Either, Left, Right}
use Rattle.circuit_theory.specs.Run.{IsEnabled}
use Rattle.circuit_theory.specs.Classes.{IsLatchOrder}
use Rattle.circuit_theory.specs.EventFits.{side_by_side}
use Rattle.flat_net.specs.Cut.{latch_at}
use Rattle.flat_net.specs.View.{NetView, circuit_of}
use Rattle.latch_graph.specs.latch_cone.Cones.{MarksEnabled}
use Rattle.sec_base.specs.declared.basics.Tag.{Tag}

-- a signal of one of the two circuits, as a place of both
abbrev pub place : Side → ℕ → Either ℕ ℕ
place A p = Left p
place B q = Right q

-- the circuit of a side
abbrev pub net_at : Side → NetView → NetView → NetView
net_at A a b = a
net_at B a b = b

-- the tag names a latch
abbrev pub IsTagOf : NetView → NetView → Tag → Type 0
IsTagOf a b t = t.latch < length (net_at t.side a b).latches

-- the latch that a tag names, as a place of both circuits
abbrev pub place_of : NetView → NetView → Tag → Either ℕ ℕ
place_of a b t = place t.side (latch_at (net_at t.side a b) t.latch).out.0

-- the bits mark the enabled latches, and no cycle of latches is left but their self-edges
pub record IsMarkedNet (n : NetView) (enabled : List Bool) : Type 0 where
  pub each : length enabled ≡ length n.latches
  pub marks : MarksEnabled Event n enabled
  pub depths : LatchesHaveDepths (circuit_of n) (IsEnabled (circuit_of n))

-- the tags name the enabled latches of both circuits, in the order in which these are given classes
abbrev pub IsTagOrder : NetView → NetView → List Tag → Type 0
IsTagOrder a b tags = (left right : List ℕ) (class : Either ℕ ℕ → ℕ) → IsLatchOrder (side_by_side (circuit_of a) (circuit_of b) left right class) (map (place_of a b) tags)
