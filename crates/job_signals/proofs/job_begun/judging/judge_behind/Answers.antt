-- What is judged, or the refusal.
use Rattle.restart.specs.Behind.{IsBegun}
use Rattle.std.proofs.Common.{◌≡◌, ◌∙◌, ℕ, List, Bool, ◌++◌, length, sym, ap, subst, Option, Err}
use Rattle.job_after.specs.Report.{begun_text}
use Rattle.job_after.specs.Ends.{FitsAfter, header_fault}
use Rattle.job_after.proofs.Starts.{comparable, long}
use Rattle.job_signals.proofs.job_begun.Judgements.{refused_by, unfit, refused, judged_by}
use Rattle.job_signals.proofs.job_begun.judging.judge_behind.Goals as goal

pub judge_begun-requires-clause-left : goal.judge_begun-requires-clause-left
judge_begun-requires-clause-left c = comparable c.args.a _ _ _ c.begin.new.net c.in_ok-left.ensures c.requires.left

pub judge_begun-requires-clause-right : goal.judge_begun-requires-clause-right
judge_begun-requires-clause-right c = comparable c.args.b _ _ _ c.begin-2.new.net c.in_ok-right.ensures c.requires.right

pub text_behind-requires-clause-left : goal.text_behind-requires-clause-left
text_behind-requires-clause-left c = ap (λ (known : List (Option Bool)). length known) c.deref.ensures.value ∙ long c.args.a _ _ c.in_ok-left.left.items c.begin.new.net c.in_ok-left.ensures

pub text_behind-requires-clause-right : goal.text_behind-requires-clause-right
text_behind-requires-clause-right c = ap (λ (known : List (Option Bool)). length known) c.deref-2.ensures.value ∙ long c.args.b _ _ c.in_ok-right.right.items c.begin-2.new.net c.in_ok-right.ensures

pub returns-in_err-match_header : goal.returns-in_err-match_header
returns-in_err-match_header c =
    let a = c.args.a in
    let b = c.args.b in
    let s = c.args.stimulus.now in
    let e = c.in_err-match_header.field-0.0 in
    refused_by c.args.signals c.args.conflicts a b s.names s.rows c.from_residual-in_err-match_header.result (header_fault e) c.from_residual-in_err-match_header.ensures.1
    (unfit c.args.signals c.args.conflicts a b s.names s.rows e (subst (λ (names : List (List ℕ)). FitsAfter a b names (Err e)) c.in_ok-header.ensures c.in_err-match_header.ensures))

pub returns-in_err-judged : goal.returns-in_err-judged
returns-in_err-judged c =
    let a = c.args.a in
    let b = c.args.b in
    let s = c.args.stimulus.now in
    let l = c.begin.new.net in
    let r = c.begin-2.new.net in
    let left = c.in_ok-left.left.items in
    let right = c.in_ok-right.right.items in
    let e = c.in_err-judged.field-0.0 in
    refused_by c.args.signals c.args.conflicts a b s.names s.rows c.from_residual-in_err-judged.result e c.from_residual-in_err-judged.ensures.1
    (refused c.args.signals c.args.conflicts a b s.names s.rows l r left right (subst (λ (names : List (List ℕ)). IsBegun a names s.rows left l) c.in_ok-header.ensures c.in_ok-left.ensures)
    (subst (λ (names : List (List ℕ)). IsBegun b names s.rows right r) c.in_ok-header.ensures c.in_ok-right.ensures) e c.in_err-judged.ensures)

pub returns : goal.returns
returns c =
    let a = c.args.a in
    let b = c.args.b in
    let s = c.args.stimulus.now in
    let l = c.begin.new.net in
    let r = c.begin-2.new.net in
    let left = c.in_ok-left.left.items in
    let right = c.in_ok-right.right.items in
    let judged = c.in_ok-judged.judged in
    let told = c.in_ok-text.ensures in
    let written : c.in_ok-text.text ≡ begun_text l r (length s.rows) left right ++ judged.text = cc (told, c.len-rows.ensures, c.deref.ensures.value, c.deref-2.ensures.value) in
    judged_by c.args.signals c.args.conflicts a b s.names s.rows l r left right (subst (λ (names : List (List ℕ)). IsBegun a names s.rows left l) c.in_ok-header.ensures c.in_ok-left.ensures)
    (subst (λ (names : List (List ℕ)). IsBegun b names s.rows right r) c.in_ok-header.ensures c.in_ok-right.ensures) s.fit judged.judgement judged.proofs judged.text c.in_ok-text.text c.in_ok-judged.ensures written
