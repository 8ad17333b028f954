-- What is judged, or the refusal.
use Rattle.std.proofs.Common.{◌≡◌, ◌∙◌, ℕ, List, Bool, length, sym, ap, subst, Option, Err}
use Rattle.flat_net.specs.View.{NetView}
use Rattle.restart.specs.Behind.{begun, IsBegun}
use Rattle.cycle_search.specs.declared.found.Searched.{Searched}
use Rattle.job_after.specs.Judged.{Behind, IsBehind}
use Rattle.job_after.specs.Report.{after_text}
use Rattle.job_after.specs.Ends.{FitsAfter, header_fault, search_fault}
use Rattle.job_after.proofs.Starts.{comparable, long}
use Rattle.job_after.proofs.Zeros.{stays}
use Rattle.job_after.proofs.LeftOut.{shown_anyhow}
use Rattle.job_after.proofs.Deepest.{decided}
use Rattle.job_after.proofs.Searched.{refused_by, unfit, refused, endless, judged_by}
use Rattle.job_after.proofs.judging.judge_after.Goals as goal

pub last_cycle-requires-clause-left : goal.last_cycle-requires-clause-left
last_cycle-requires-clause-left c = comparable c.args.a _ _ _ c.begin.new.net c.in_ok-left.ensures c.requires.left

pub last_cycle-requires-clause-right : goal.last_cycle-requires-clause-right
last_cycle-requires-clause-right c = comparable c.args.b _ _ _ c.begin-2.new.net c.in_ok-right.ensures c.requires.right

pub search_cycles-requires-clause-left : goal.search_cycles-requires-clause-left
search_cycles-requires-clause-left c = comparable c.args.a _ _ _ c.begin.new.net c.in_ok-left.ensures c.requires.left

pub search_cycles-requires-clause-right : goal.search_cycles-requires-clause-right
search_cycles-requires-clause-right c = comparable c.args.b _ _ _ c.begin-2.new.net c.in_ok-right.ensures c.requires.right

pub shown_of-requires-clause-left : goal.shown_of-requires-clause-left
shown_of-requires-clause-left c = comparable c.args.a _ _ _ c.begin.new.net c.in_ok-left.ensures c.requires.left

pub shown_of-requires-clause-right : goal.shown_of-requires-clause-right
shown_of-requires-clause-right c = comparable c.args.b _ _ _ c.begin-2.new.net c.in_ok-right.ensures c.requires.right

pub shown_of-requires-clause-known : goal.shown_of-requires-clause-known
shown_of-requires-clause-known c = (
  ap (λ (known : List (Option Bool)). length known) c.deref.ensures.value ∙ long c.args.a _ _ c.in_ok-left.left.items c.begin.new.net c.in_ok-left.ensures,
  ap (λ (known : List (Option Bool)). length known) c.deref-2.ensures.value ∙ long c.args.b _ _ c.in_ok-right.right.items c.begin-2.new.net c.in_ok-right.ensures,
)

pub shown_of-requires-clause-begun : goal.shown_of-requires-clause-begun
shown_of-requires-clause-begun c = (
  ap (λ (known : List (Option Bool)). begun c.begin.new.net known) c.deref.ensures.value ∙ stays c.args.a _ _ c.in_ok-left.left.items c.begin.new.net c.in_ok-left.ensures,
  ap (λ (known : List (Option Bool)). begun c.begin-2.new.net known) c.deref-2.ensures.value ∙ stays c.args.b _ _ c.in_ok-right.right.items c.begin-2.new.net c.in_ok-right.ensures,
)

pub report-requires-clause-left : goal.report-requires-clause-left
report-requires-clause-left c =
    ap (λ (known : List (Option Bool)). length known) c.deref-3.ensures.value
    ∙ (long c.args.a _ _ c.in_ok-left.left.items c.begin.new.net c.in_ok-left.ensures ∙ ap (λ (n : NetView). length n.latches) (sym c.in_ok-shown.ensures.same.0))

pub report-requires-clause-right : goal.report-requires-clause-right
report-requires-clause-right c =
    ap (λ (known : List (Option Bool)). length known) c.deref-4.ensures.value
    ∙ (long c.args.b _ _ c.in_ok-right.right.items c.begin-2.new.net c.in_ok-right.ensures ∙ ap (λ (n : NetView). length n.latches) (sym c.in_ok-shown.ensures.same.1))

pub returns-in_err-match_header : goal.returns-in_err-match_header
returns-in_err-match_header c =
    let a = c.args.a in
    let b = c.args.b in
    let s = c.args.stimulus.now in
    let e = c.in_err-match_header.field-0.0 in
    refused_by a b s.names s.rows c.args.wanted c.args.conflicts c.from_residual-in_err-match_header.result (header_fault e) c.from_residual-in_err-match_header.ensures.1
    (unfit a b s.names s.rows c.args.wanted c.args.conflicts e (subst (λ (names : List (List ℕ)). FitsAfter a b names (Err e)) c.in_ok-header.ensures c.in_err-match_header.ensures))

pub returns-in_err-cycles : goal.returns-in_err-cycles
returns-in_err-cycles c =
    let a = c.args.a in
    let b = c.args.b in
    let s = c.args.stimulus.now in
    let e = c.in_err-cycles.field-0.0 in
    refused_by a b s.names s.rows c.args.wanted c.args.conflicts c.from_residual-in_err-cycles.result e c.from_residual-in_err-cycles.ensures.1
    (endless a b s.names s.rows c.args.wanted c.args.conflicts c.begin.new.net c.begin-2.new.net c.in_ok-left.left.items c.in_ok-right.right.items
    (subst (λ (names : List (List ℕ)). IsBegun a names s.rows c.in_ok-left.left.items c.begin.new.net) c.in_ok-header.ensures c.in_ok-left.ensures)
    (subst (λ (names : List (List ℕ)). IsBegun b names s.rows c.in_ok-right.right.items c.begin-2.new.net) c.in_ok-header.ensures c.in_ok-right.ensures)
    e c.in_err-cycles.ensures)

pub returns-in_err-searched : goal.returns-in_err-searched
returns-in_err-searched c =
    let a = c.args.a in
    let b = c.args.b in
    let s = c.args.stimulus.now in
    let e = c.in_err-searched.field-0.0 in
    refused_by a b s.names s.rows c.args.wanted c.args.conflicts c.from_residual-in_err-searched.result (search_fault e) c.from_residual-in_err-searched.ensures.1
    (refused a b s.names s.rows c.args.wanted c.args.conflicts c.begin.new.net c.begin-2.new.net c.in_ok-left.left.items c.in_ok-right.right.items c.in_ok-cycles.cycles
    (subst (λ (names : List (List ℕ)). IsBegun a names s.rows c.in_ok-left.left.items c.begin.new.net) c.in_ok-header.ensures c.in_ok-left.ensures)
    (subst (λ (names : List (List ℕ)). IsBegun b names s.rows c.in_ok-right.right.items c.begin-2.new.net) c.in_ok-header.ensures c.in_ok-right.ensures)
    e c.in_err-searched.ensures)

pub returns : goal.returns
returns c =
    let a = c.args.a in
    let b = c.args.b in
    let s = c.args.stimulus.now in
    let l = c.begin.new.net in
    let r = c.begin-2.new.net in
    let left = c.in_ok-left.left.items in
    let right = c.in_ok-right.right.items in
    let made = c.in_ok-searched.searched in
    let shown = c.in_ok-shown.shown in
    let cycles = c.in_ok-cycles.cycles in
    let h : Behind = record { left_known = left; right_known = right; left = l; right = r; cycles = cycles; made = made; shown = shown } in
    let is : IsBehind a b s.names s.rows c.args.wanted c.args.conflicts h = record {
      left_begun = subst (λ (names : List (List ℕ)). IsBegun a names s.rows left l) c.in_ok-header.ensures c.in_ok-left.ensures;
      right_begun = subst (λ (names : List (List ℕ)). IsBegun b names s.rows right r) c.in_ok-header.ensures c.in_ok-right.ensures;
      last_is = c.in_ok-cycles.ensures;
      searched = c.in_ok-searched.ensures;
      decided = decided l r c.args.wanted cycles c.args.conflicts made c.in_ok-cycles.ensures c.in_ok-searched.ensures;
    } in
    let told = c.in_ok-text.ensures in
    let written : c.in_ok-text.text ≡ after_text l r cycles c.args.conflicts (length s.rows) left right shown made = cc (told, c.len.ensures, c.deref-3.ensures.value, c.deref-4.ensures.value, c.in_ok-shown.ensures.same.0, c.in_ok-shown.ensures.same.1) in
    judged_by a b s.names s.rows c.args.wanted c.args.conflicts s.fit h is c.requires.right.distinct c.judgement_of-judgement.result c.in_ok-proofs.proofs c.in_ok-text.text
    (shown_anyhow (λ (found : Searched). Unit {0}) l r s.names s.rows shown c.in_ok-shown.ensures.shown) c.judgement_of-judgement.ensures c.in_ok-proofs.ensures written
