-- What is judged, or the first refusal.
use Rattle.std.proofs.Common.{sym, subst, Err}
use Rattle.sec_jobs.specs.declared.job_induct.judging.JudgeError.{JudgeError}
use Rattle.sec_jobs.specs.job_induct.Ends.{refusal_of, IsJudgedBy}
use Rattle.sec_jobs.proofs.job_induct.Judgements.{refused_by, is_mismatch, mismatched, oversized, judged_by}
use Rattle.sec_jobs.proofs.job_induct.judging.judge_nets.Goals as goal

pub mismatch_of-requires : goal.mismatch_of-requires
mismatch_of-requires c = is_mismatch c.args.a.now c.args.b.now c.in-Err.error c.in-Err.ensures.err

pub returns-in-Err : goal.returns-in-Err
returns-in-Err c =
    subst (λ (e : JudgeError). IsJudgedBy c.args.a.now c.args.b.now c.args.conflicts (Err e)) (sym c.mismatch_of.ensures)
    (mismatched c.args.a.now c.args.b.now c.args.conflicts c.in-Err.error c.in-Err.ensures.err)

pub returns-in_err-made : goal.returns-in_err-made
returns-in_err-made c =
    refused_by (IsJudgedBy c.args.a.now c.args.b.now c.args.conflicts) c.from_residual.result (refusal_of c.in_err-made.field-0.0) c.from_residual.ensures.1
    (oversized c.args.a.now c.args.b.now c.args.conflicts c.in_err-made.field-0.0 c.in-Ok.ensures.ok.0 c.in_err-made.ensures.refused)

pub returns : goal.returns
returns c =
    judged_by c.args.a.now c.args.b.now c.args.conflicts c.in_ok-made.made c.in_ok-judged.judged c.keeps.ensures.sound c.keeps-2.ensures.sound c.in-Ok.ensures.ok.0 c.in_ok-made.ensures.light c.in_ok-made.ensures.made c.in_ok-made.ensures.agree c.in_ok-judged.ensures.judgement
    c.in_ok-judged.ensures.proofs c.in_ok-judged.ensures.text
