use Rattle.premise_rows.proofs.one_text_runs.one_text.OneText.{unfolded_is_comparable}
use Rattle.premise_rows.proofs.one_text_runs.one_text.unfolded_is_comparable.Goals as goal

pub returns : goal.returns
returns c = unfolded_is_comparable
