use Rattle.std.proofs.Common.{arith}
use Rattle.circuit_laws.proofs.reset_laws.ResetTrees.{reset_tree_is_run}
use Rattle.circuit_laws.proofs.reset_laws.laws.reset_tree_is_run.Goals as goal

pub returns : goal.returns
returns c = λ net order base s t tree unfolds n run is_run h x inputs power. reset_tree_is_run net order base n run is_run x t h inputs power unfolds (omega arith)
