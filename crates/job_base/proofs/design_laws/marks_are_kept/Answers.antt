use Rattle.job_base.proofs.design_laws.Kept.{marks_are_kept}
use Rattle.job_base.proofs.design_laws.marks_are_kept.Goals as goal

pub returns : goal.returns
returns c = marks_are_kept
