use Rattle.premise_rows.proofs.job_rows.OneReport.{sim_reports_are_one}
use Rattle.premise_rows.proofs.job_rows.sim_reports_are_one.Goals as goal

pub returns : goal.returns
returns c = sim_reports_are_one
