-- Nets with the chosen latches cut out, and the bits of their enabled latches.
use Rattle.std.specs.Prelude.{◌≡◌, ◌↔◌, ℕ, Bool, true, List}
use Rattle.circuit_theory.specs.Run.{IsEnabled}
use Rattle.flat_net.specs.declared.parts.LatchAt.{LatchAt}
use Rattle.flat_net.specs.Cut.{IsCut, IsCutCircuit, exposed_names}
use Rattle.flat_net.specs.View.{NetView, circuit_of}
use Rattle.sec_setup.specs.declared.cut_points.exposed.Exposure.{Exposure}
use Rattle.event_setup.specs.declared.cutting.CutNets.{CutNets}
use Rattle.event_setup.specs.Recovered.{AreMarked}

-- the bit is set exactly where the latch is enabled in the net
abbrev pub HasBit : NetView → LatchAt → Bool → Type 0
HasBit n l bit = (bit ≡ true) ↔ IsEnabled (circuit_of n) l.out.0

-- the net with the latches at these positions cut out, and which of the others are enabled there
pub record IsMarkedCut (n : NetView) (positions : List ℕ) (m : NetView) (bits : List Bool) : Type 0 where
  pub parts : IsCut n m positions
  pub circuit : IsCutCircuit (exposed_names n positions) (circuit_of n) (circuit_of m)
  pub marked : AreMarked m bits

-- the same of both nets
pub record AreMarkedCuts (a b : NetView) (e : Exposure) (c : CutNets) : Type 0 where
  pub left : IsMarkedCut a e.left c.left.net c.left.enabled
  pub right : IsMarkedCut b e.right c.right.net c.right.enabled
