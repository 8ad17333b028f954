use Rattle.std.proofs.Common.{take}
use Rattle.flat_net.specs.View.{circuit_of}
use Rattle.cbf_unfold.specs.unfold_places.Reach.{AreInputsOf}
use Rattle.cbf_unfold.proofs.unfold_places.variables.inputs_of.Given as goal

abbrev pub invariant-loop-place : goal.invariant-loop-place
invariant-loop-place l = AreInputsOf (circuit_of l.net) l.order (take l.place-index l.places) l.found.items
