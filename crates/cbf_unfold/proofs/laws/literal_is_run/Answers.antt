-- The literal has the tree's value, and the tree has the run's.
use Rattle.std.proofs.Common.{◌∙◌, length}
use Rattle.circuit_laws.proofs.LawProofs.{tree_is_run}
use Rattle.flat_net.specs.View.{circuit_of}
use Rattle.flat_net.proofs.Nets.{sound_is_net}
use Rattle.cbf_unfold.proofs.laws.literal_is_run.Goals as goal

pub returns : goal.returns
returns c = λ n order g places s x vars sound values u count run is_run t within settled bits inputs a takes.
    values places bits a u.tree x takes u.builds
    ∙ tree_is_run (circuit_of n) (length n.drivers) order s u.depth u.tree (sound_is_net n sound) u.unfolds count run is_run t within settled bits inputs
