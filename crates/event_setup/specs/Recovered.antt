-- What is found out about the enabled latches of two circuits.
use Rattle.std.specs.Prelude.{◌≡◌, ℕ, Bool, List, length, Result, Ok, Err}
use Rattle.circuit_theory.specs.declared.Mode.TheVariants.{Event}
use Rattle.circuit_theory.specs.declared.Side.{Side}
use Rattle.circuit_theory.specs.declared.Side.TheVariants.{A, B}
use Rattle.flat_net.specs.View.{NetView}
use Rattle.signal_graph.specs.declared.inner_cone.latch_cone.kinds.LatchKind.{LatchKind}
use Rattle.signal_graph.specs.inner_cone.latch_cone.Cones.{MarksEnabled}
use Rattle.signal_graph.specs.inner_cone.latch_cone.Kinds.{AreKindsIn}
use Rattle.latch_kinds.specs.Found.{AreLight, HasLimit, HasTooLarge}
use Rattle.event_setup.specs.declared.enables.EnabledLatches.{EnabledLatches}
use Rattle.event_setup.specs.declared.error.RecoveryError.{RecoveryError}
use Rattle.event_setup.specs.declared.error.RecoveryError.TheVariants as unknown

-- the bits mark exactly the enabled latches of the net
pub record AreMarked (n : NetView) (bits : List Bool) : Type 0 where
  pub each : length bits ≡ length n.latches
  pub marks : MarksEnabled Event n bits

-- the same of both nets
pub record AreBothMarked (a b : NetView) (e : EnabledLatches) : Type 0 where
  pub left : AreMarked a e.left
  pub right : AreMarked b e.right

-- it is known what each latch of the net is, and no latch that is in its own cone has a cone that is too large
pub record AreKnown (n : NetView) : Type 0 where
  pub kinds : List LatchKind
  pub are : AreKindsIn Event n kinds
  pub light : AreLight n

-- the enabled latches of one of both nets, or why they aren't known
abbrev pub Recovers : Side → NetView → ℕ → Result (List Bool) RecoveryError → Type 0
Recovers side n conflicts (Ok bits) = AreMarked n bits × AreKnown n
Recovers side n conflicts (Err (unknown.TooLarge other)) = (other ≡ side) × HasTooLarge n
Recovers side n conflicts (Err (unknown.Limit other name proof)) = (other ≡ side) × HasLimit n conflicts name proof
Recovers side n conflicts (Err unknown.NoMemory) = Unit {0}

-- The enabled latches of A and of B, or why they aren't known: the first latch in A's order, then in B's, whose query has met the limit or
-- whose cone is too large.
abbrev pub RecoversBoth : NetView → NetView → ℕ → Result EnabledLatches RecoveryError → Type 0
RecoversBoth a b conflicts (Ok e) = AreBothMarked a b e × AreKnown a × AreKnown b
RecoversBoth a b conflicts (Err (unknown.TooLarge A)) = HasTooLarge a
RecoversBoth a b conflicts (Err (unknown.TooLarge B)) = AreKnown a × HasTooLarge b
RecoversBoth a b conflicts (Err (unknown.Limit A name proof)) = HasLimit a conflicts name proof
RecoversBoth a b conflicts (Err (unknown.Limit B name proof)) = AreKnown a × HasLimit b conflicts name proof
RecoversBoth a b conflicts (Err unknown.NoMemory) = Unit {0}
