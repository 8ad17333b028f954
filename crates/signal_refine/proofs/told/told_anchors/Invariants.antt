use Rattle.signal_refine.specs.Told.{AreTold}
use Rattle.std.proofs.Common.{◌≡◌, length}
use Rattle.signal_refine.proofs.told.told_anchors.Given as goal

abbrev pub invariant-loop-place : goal.invariant-loop-place
invariant-loop-place l = record { each : length l.told.items ≡ l.place; told : AreTold l.lits l.nodes l.told.items }
