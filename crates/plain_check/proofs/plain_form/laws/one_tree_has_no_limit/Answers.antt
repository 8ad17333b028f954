use Rattle.plain_check.proofs.plain_form.NoLimits.{one_tree_has_no_limit}
use Rattle.plain_check.proofs.plain_form.laws.one_tree_has_no_limit.Goals as goal

pub returns : goal.returns
returns c = one_tree_has_no_limit
