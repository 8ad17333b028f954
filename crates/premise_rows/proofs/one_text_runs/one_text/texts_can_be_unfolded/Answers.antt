use Rattle.premise_rows.proofs.one_text_runs.one_text.Unfolded.{texts_can_be_unfolded}
use Rattle.premise_rows.proofs.one_text_runs.one_text.texts_can_be_unfolded.Goals as goal

pub returns : goal.returns
returns c = texts_can_be_unfolded
