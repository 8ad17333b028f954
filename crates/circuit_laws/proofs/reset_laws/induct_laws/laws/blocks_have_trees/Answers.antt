use Rattle.circuit_laws.proofs.reset_laws.induct_laws.BlockTrees.{blocks_have_trees}
use Rattle.circuit_laws.proofs.reset_laws.induct_laws.laws.blocks_have_trees.Goals as goal

pub returns : goal.returns
returns c = blocks_have_trees
