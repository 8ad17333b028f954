use Rattle.premise_rows.proofs.Certificates.{certificates_meet_premises}
use Rattle.premise_rows.proofs.certificates_meet_premises.Goals as goal

pub returns : goal.returns
returns c = certificates_meet_premises
