use Rattle.job_base.proofs.design_laws.CutFlats.{closed_cuts_bound}
use Rattle.job_base.proofs.design_laws.closed_cuts_bound.Goals as goal

pub returns : goal.returns
returns c = closed_cuts_bound
