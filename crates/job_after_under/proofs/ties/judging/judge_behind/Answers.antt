-- What is judged, or the refusal.
use Rattle.std.proofs.Common.{◌≡◌, ◌∙◌, ℕ, Bool, List, ◌++◌, length, ap, subst, Option, Err}
use Rattle.restart.specs.Behind.{IsBegun}
use Rattle.job_after.specs.Report.{begun_text}
use Rattle.job_after.specs.Ends.{FitsAfter}
use Rattle.job_after.proofs.Starts.{comparable, long}
use Rattle.job_under.specs.job_begun.Judged.{Begun, AreBegun}
use Rattle.job_after_under.specs.declared.fault.Fault.TheVariants as fault
use Rattle.job_after_under.specs.ties.Ends.{AreJudgedBy}
use Rattle.job_after_under.proofs.Judges.{refused_by}
use Rattle.job_after_under.proofs.ties.Judgements.{judged_by}
use Rattle.job_after_under.proofs.ties.judging.judge_behind.Goals as goal

pub judge_ties-requires-clause-left : goal.judge_ties-requires-clause-left
judge_ties-requires-clause-left c = comparable c.args.a _ _ _ c.begin.new.net c.in_ok-left.ensures c.requires.left

pub judge_ties-requires-clause-right : goal.judge_ties-requires-clause-right
judge_ties-requires-clause-right c = comparable c.args.b _ _ _ c.begin-2.new.net c.in_ok-right.ensures c.requires.right

pub text_behind-requires-clause-left : goal.text_behind-requires-clause-left
text_behind-requires-clause-left c = ap (λ (known : List (Option Bool)). length known) c.deref.ensures.value ∙ long c.args.a _ _ c.in_ok-left.left.items c.begin.new.net c.in_ok-left.ensures

pub text_behind-requires-clause-right : goal.text_behind-requires-clause-right
text_behind-requires-clause-right c = ap (λ (known : List (Option Bool)). length known) c.deref-2.ensures.value ∙ long c.args.b _ _ c.in_ok-right.right.items c.begin-2.new.net c.in_ok-right.ensures

pub returns-in_err-match_header : goal.returns-in_err-match_header
returns-in_err-match_header c =
    let s = c.args.stimulus.now in
    let e = c.in_err-match_header.field-0.0 in
    refused_by (AreJudgedBy c.args.a c.args.b c.args.c.now s.names s.rows c.args.conflicts) c.from_residual-in_err-match_header.result (fault.Header e) c.from_residual-in_err-match_header.ensures.1
    (subst (λ (names : List (List ℕ)). FitsAfter c.args.a c.args.b names (Err e)) c.in_ok-header.ensures c.in_err-match_header.ensures)

pub returns-in_err-judged : goal.returns-in_err-judged
returns-in_err-judged c =
    let a = c.args.a in
    let b = c.args.b in
    let s = c.args.stimulus.now in
    let e = c.in_err-judged.field-0.0 in
    refused_by (AreJudgedBy a b c.args.c.now s.names s.rows c.args.conflicts) c.from_residual-in_err-judged.result (fault.Search e) c.from_residual-in_err-judged.ensures.1
    (record {
      left_known = c.in_ok-left.left.items;
      right_known = c.in_ok-right.right.items;
      left = c.begin.new.net;
      right = c.begin-2.new.net;
      left_begun = subst (λ (names : List (List ℕ)). IsBegun a names s.rows c.in_ok-left.left.items c.begin.new.net) c.in_ok-header.ensures c.in_ok-left.ensures;
      right_begun = subst (λ (names : List (List ℕ)). IsBegun b names s.rows c.in_ok-right.right.items c.begin-2.new.net) c.in_ok-header.ensures c.in_ok-right.ensures;
      said = c.in_err-judged.ensures;
    })

pub returns : goal.returns
returns c =
    let a = c.args.a in
    let b = c.args.b in
    let s = c.args.stimulus.now in
    let l = c.begin.new.net in
    let r = c.begin-2.new.net in
    let left = c.in_ok-left.left.items in
    let right = c.in_ok-right.right.items in
    let judged = c.in_ok-judged.judged in
    let told = c.in_ok-text.ensures in
    let h : Begun = record { left_known = left; right_known = right; left = l; right = r } in
    let is : AreBegun a b s.names s.rows h = record {
      left_begun = subst (λ (names : List (List ℕ)). IsBegun a names s.rows left l) c.in_ok-header.ensures c.in_ok-left.ensures;
      right_begun = subst (λ (names : List (List ℕ)). IsBegun b names s.rows right r) c.in_ok-header.ensures c.in_ok-right.ensures;
    } in
    let written : c.in_ok-text.text ≡ begun_text l r (length s.rows) left right ++ judged.text = cc (told, c.len-rows.ensures, c.deref.ensures.value, c.deref-2.ensures.value) in
    judged_by a b c.args.c.now s.names s.rows s.fit h is judged.judgement judged.proofs judged.text c.args.conflicts c.in_ok-text.text written c.in_ok-judged.ensures
