-- What is judged, or the refusal.
use Rattle.std.proofs.Common.{◌∙◌}
use Rattle.sec_jobs.proofs.job_search.Judgements.{refused_by, refused, judged_by}
use Rattle.sec_jobs.proofs.job_search.judging.judge_nets.Goals as goal

pub returns-in_err-searched : goal.returns-in_err-searched
returns-in_err-searched c =
    refused_by c.args.a.now c.args.b.now c.args.cycles c.args.conflicts c.from_residual.result c.in_err-searched.field-0.0 c.from_residual.ensures.1
    (refused c.args.a.now c.args.b.now c.args.cycles c.args.conflicts c.in_err-searched.field-0.0 c.in_err-searched.ensures)

pub returns : goal.returns
returns c =
    judged_by c.args.a.now c.args.b.now c.args.cycles c.args.conflicts c.in_ok-searched.searched c.judgement_of-judgement.result c.in_ok-proofs.proofs c.in_ok-text.text c.requires.right c.in_ok-searched.ensures c.judgement_of-judgement.ensures c.in_ok-proofs.ensures c.in_ok-text.ensures
