use Rattle.std.proofs.Common.{Err, ap, arith}
use Rattle.job_base.proofs.sec_files.StimulusTexts.{few_rows, text_ends}
use Rattle.job_base.proofs.sec_files.stimuli.read_text.Goals as goal

pub returns-in-Ok-clause-few : goal.returns-in-Ok-clause-few
returns-in-Ok-clause-few c =
    let few = few_rows c.args.text.now c.in-Ok.stimulus.names c.in-Ok.stimulus.rows c.in-Ok.ensures.ok in
    omega (arith, few, c.requires)

pub returns-in-Err-clause-err : goal.returns-in-Err-clause-err
returns-in-Err-clause-err c = text_ends c.args.text.now c.in-Err.error c.requires (λ n e. c.in-Err.ensures.header n (ap Err e)) (λ n e. c.in-Err.ensures.row n (ap Err e))
