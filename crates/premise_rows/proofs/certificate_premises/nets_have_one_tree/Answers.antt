use Rattle.premise_rows.proofs.certificate_premises.OneTree.{nets_have_one_tree}
use Rattle.premise_rows.proofs.certificate_premises.nets_have_one_tree.Goals as goal

pub returns : goal.returns
returns c = nets_have_one_tree
