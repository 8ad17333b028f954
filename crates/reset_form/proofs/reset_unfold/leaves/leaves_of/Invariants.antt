use Rattle.std.proofs.Common.{take}
use Rattle.flat_net.specs.View.{circuit_of}
use Rattle.reset_form.specs.reset_unfold.Reach.{AreLeavesOf}
use Rattle.reset_form.proofs.reset_unfold.leaves.leaves_of.Given as goal

abbrev pub invariant-loop-place : goal.invariant-loop-place
invariant-loop-place l = AreLeavesOf (circuit_of l.net) l.order l.base (take l.place-index l.places) l.found.items
