-- What is judged, or the first refusal.
use Rattle.std.proofs.Common.{sym, subst, Err}
use Rattle.job_signals.specs.declared.judging.JudgeError.{JudgeError}
use Rattle.job_signals.specs.Ends.{refusal_of, IsJudgedBy}
use Rattle.job_signals.proofs.Judgements.{refused_by, is_mismatch, mismatched, oversized}
use Rattle.job_signals.proofs.judging.judge_nets.Goals as goal

pub mismatch_of-requires : goal.mismatch_of-requires
mismatch_of-requires c = is_mismatch c.args.a.now c.args.b.now c.in-Err.error c.in-Err.ensures.err

pub returns-in-Err : goal.returns-in-Err
returns-in-Err c =
    subst (λ (e : JudgeError). IsJudgedBy c.args.a.now c.args.b.now (Err e)) (sym c.mismatch_of.ensures)
    (mismatched c.args.a.now c.args.b.now c.in-Err.error c.in-Err.ensures.err)

pub returns-in_err-made : goal.returns-in_err-made
returns-in_err-made c =
    refused_by (IsJudgedBy c.args.a.now c.args.b.now) c.from_residual.result (refusal_of c.in_err-made.field-0.0) c.from_residual.ensures.1
    (oversized c.args.a.now c.args.b.now c.in_err-made.field-0.0 c.in-Ok.ensures.ok.0 c.in_err-made.ensures.refused)

pub returns : goal.returns
returns c = record {
  matches = c.in-Ok.ensures.ok.0;
  light = c.in_ok-made.ensures.light;
  made = c.in_ok-made.made;
  is = c.in_ok-made.ensures.made;
  agree = c.in_ok-made.ensures.agree;
  judgement_is = c.in_ok-judged.ensures.judgement;
  text_is = c.in_ok-judged.ensures.text;
}
