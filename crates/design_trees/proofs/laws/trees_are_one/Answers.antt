use Rattle.design_trees.proofs.OneTree.{have_one_tree}
use Rattle.design_trees.proofs.laws.trees_are_one.Goals as goal

pub returns : goal.returns
returns c = have_one_tree
