use Rattle.premise_rows.proofs.one_text_runs.one_text.OneText.{one_tree_is_equal}
use Rattle.premise_rows.proofs.one_text_runs.one_text.one_tree_is_equal.Goals as goal

pub returns : goal.returns
returns c = one_tree_is_equal
