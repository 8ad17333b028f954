-- What follows for the cone of a latch.
use Rattle.std.specs.Prelude.{◌≡◌, ℕ}
use Rattle.flat_net.specs.View.{NetView}
use Rattle.latch_kinds.specs.declared.unate_enable.support.LatchCone.{LatchCone}
use Rattle.latch_kinds.specs.unate_enable.Cones.{IsConeOfLatch}

-- A latch has one cone.
abbrev pub ConesAreOne : Type 0
ConesAreOne = (n : NetView) (j : ℕ) (a b : LatchCone) → IsConeOfLatch n j a → IsConeOfLatch n j b → a ≡ b
