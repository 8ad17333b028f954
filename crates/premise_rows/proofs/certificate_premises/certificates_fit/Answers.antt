use Rattle.premise_rows.proofs.certificate_premises.Fitting.{certificates_fit}
use Rattle.premise_rows.proofs.certificate_premises.certificates_fit.Goals as goal

pub returns : goal.returns
returns c = certificates_fit
