-- The literal has the tree's value, and the tree has the run's.
use Rattle.std.proofs.Common.{◌∙◌, arith}
use Rattle.circuit_laws.proofs.reset_laws.ResetTrees.{reset_tree_is_run}
use Rattle.flat_net.specs.View.{circuit_of}
use Rattle.reset_form.proofs.reset_unfold.laws.reset_literal_is_run.Goals as goal

pub returns : goal.returns
returns c = λ n order base g places s t x vars values u count run is_run within bits inputs latches a takes.
    values places bits a u.tree x takes u.builds
    ∙ reset_tree_is_run (circuit_of n) order base count run is_run bits t within inputs latches u.unfolds (omega arith)
