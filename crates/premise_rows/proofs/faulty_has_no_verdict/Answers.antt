use Rattle.premise_rows.proofs.Faulty.{faulty_has_no_verdict}
use Rattle.premise_rows.proofs.faulty_has_no_verdict.Goals as goal

pub returns : goal.returns
returns c = faulty_has_no_verdict
