use Rattle.job_cert.proofs.job_lrat.Checking.{proof_fails}
use Rattle.job_cert.proofs.job_lrat.loading.check_text.Goals as goal

pub returns-in-Ok-clause-ok : goal.returns-in-Ok-clause-ok
returns-in-Ok-clause-ok c = record { short = c.requires; accepted = c.in-Ok.ensures.verdict }

pub returns-in-Err-clause-err : goal.returns-in-Err-clause-err
returns-in-Err-clause-err c = proof_fails c.args.formula.now c.args.text.now c.in-Err.error c.requires c.in-Err.ensures.verdict
