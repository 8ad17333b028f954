use Rattle.premise_rows.proofs.job_rows.OneReport.{graph_reports_are_one}
use Rattle.premise_rows.proofs.job_rows.graph_reports_are_one.Goals as goal

pub returns : goal.returns
returns c = graph_reports_are_one
