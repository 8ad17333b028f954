use Rattle.premise_rows.proofs.certificate_premises.Printed.{certificates_of_ands}
use Rattle.premise_rows.proofs.certificate_premises.certificates_of_ands.Goals as goal

pub returns : goal.returns
returns c = certificates_of_ands
