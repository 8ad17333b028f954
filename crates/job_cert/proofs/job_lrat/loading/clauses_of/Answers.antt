use Rattle.job_cert.proofs.job_lrat.Checking.{clauses_fail}
use Rattle.job_cert.proofs.job_lrat.loading.clauses_of.Goals as goal

pub returns-in-Ok-clause-ok : goal.returns-in-Ok-clause-ok
returns-in-Ok-clause-ok c = record { short = c.requires; is = c.in-Ok.ensures.formula }

pub returns-in-Err-clause-err : goal.returns-in-Err-clause-err
returns-in-Err-clause-err c = clauses_fail c.args.text.now c.in-Err.error c.requires c.in-Err.ensures.formula
