use Rattle.premise_rows.proofs.AndFile.{file_is_comparable}
use Rattle.premise_rows.proofs.file_is_comparable.Goals as goal

pub returns : goal.returns
returns c = file_is_comparable
