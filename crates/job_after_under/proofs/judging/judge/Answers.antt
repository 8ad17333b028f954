-- What is judged, or the refusal.
use Rattle.std.proofs.Common.{◌≡◌, ◌∙◌, ℕ, List, Bool, length, refl, sym, ap, subst, inl, inr, Option, Err}
use Rattle.flat_net.specs.Comparable.{IsComparable}
use Rattle.flat_net.specs.View.{NetView}
use Rattle.restart.specs.Behind.{begun, IsBegun}
use Rattle.cycle_under.specs.declared.found.SearchUnder.{SearchUnder}
use Rattle.cycle_under.specs.Searches.{AreSearchedUnder, IsMadeUnder}
use Rattle.job_after.specs.Ends.{FitsAfter}
use Rattle.job_after.specs.Judged.{Behind}
use Rattle.job_after.proofs.Starts.{comparable, long}
use Rattle.job_after.proofs.Zeros.{stays}
use Rattle.job_after_under.specs.declared.fault.Fault.TheVariants as fault
use Rattle.job_after_under.specs.Ends.{IsTold, IsJudgedBy}
use Rattle.job_after_under.specs.Judged.{IsBehindUnder}
use Rattle.job_after_under.specs.Report.{undecided_behind}
use Rattle.job_after_under.proofs.Judges.{refused_by, judged_by}
use Rattle.job_after_under.proofs.judging.judge.Goals as goal

pub search_cycles_under-requires-clause-left : goal.search_cycles_under-requires-clause-left
search_cycles_under-requires-clause-left c = comparable c.args.a _ _ _ c.begin.new.net c.in_ok-left.ensures c.requires.left

pub search_cycles_under-requires-clause-right : goal.search_cycles_under-requires-clause-right
search_cycles_under-requires-clause-right c = comparable c.args.b _ _ _ c.begin-2.new.net c.in_ok-right.ensures c.requires.right

pub judged_search-requires-clause-left : goal.judged_search-requires-clause-left
judged_search-requires-clause-left c = comparable c.args.a _ _ _ c.begin.new.net c.in_ok-left.ensures c.requires.left

pub judged_search-requires-clause-right : goal.judged_search-requires-clause-right
judged_search-requires-clause-right c = comparable c.args.b _ _ _ c.begin-2.new.net c.in_ok-right.ensures c.requires.right

pub judged_search-requires-clause-known : goal.judged_search-requires-clause-known
judged_search-requires-clause-known c = (
  ap (λ (known : List (Option Bool)). length known) c.deref.ensures.value ∙ long c.args.a _ _ c.in_ok-left.left.items c.begin.new.net c.in_ok-left.ensures,
  ap (λ (known : List (Option Bool)). length known) c.deref-2.ensures.value ∙ long c.args.b _ _ c.in_ok-right.right.items c.begin-2.new.net c.in_ok-right.ensures,
)

pub judged_search-requires-clause-begun : goal.judged_search-requires-clause-begun
judged_search-requires-clause-begun c = (
  ap (λ (known : List (Option Bool)). begun c.begin.new.net known) c.deref.ensures.value ∙ stays c.args.a _ _ c.in_ok-left.left.items c.begin.new.net c.in_ok-left.ensures,
  ap (λ (known : List (Option Bool)). begun c.begin-2.new.net known) c.deref-2.ensures.value ∙ stays c.args.b _ _ c.in_ok-right.right.items c.begin-2.new.net c.in_ok-right.ensures,
)

pub judged_search-requires-clause-searched : goal.judged_search-requires-clause-searched
judged_search-requires-clause-searched c =
    (subst (λ (s : SearchUnder). IsMadeUnder c.begin.new.net c.begin-2.new.net c.args.c.now c.args.cycles c.args.conflicts s) c.in-Searched.is c.in_ok-name.ensures).0

pub judged_limit-requires-clause-left : goal.judged_limit-requires-clause-left
judged_limit-requires-clause-left c = ap (λ (known : List (Option Bool)). length known) c.deref.ensures.value ∙ long c.args.a _ _ c.in_ok-left.left.items c.begin.new.net c.in_ok-left.ensures

pub judged_limit-requires-clause-right : goal.judged_limit-requires-clause-right
judged_limit-requires-clause-right c = ap (λ (known : List (Option Bool)). length known) c.deref-2.ensures.value ∙ long c.args.b _ _ c.in_ok-right.right.items c.begin-2.new.net c.in_ok-right.ensures

pub returns-in_err-match_header : goal.returns-in_err-match_header
returns-in_err-match_header c =
    let s = c.args.stimulus.now in
    let e = c.in_err-match_header.field-0.0 in
    refused_by (IsJudgedBy c.args.a c.args.b c.args.c.now s.names s.rows c.args.cycles c.args.conflicts) c.from_residual-in_err-match_header.result (fault.Header e) c.from_residual-in_err-match_header.ensures.1
    (subst (λ (names : List (List ℕ)). FitsAfter c.args.a c.args.b names (Err e)) c.in_ok-header.ensures c.in_err-match_header.ensures)

pub returns-in_err-name : goal.returns-in_err-name
returns-in_err-name c =
    let a = c.args.a in
    let b = c.args.b in
    let s = c.args.stimulus.now in
    let e = c.in_err-name.field-0.0 in
    refused_by (IsJudgedBy a b c.args.c.now s.names s.rows c.args.cycles c.args.conflicts) c.from_residual-in_err-name.result (fault.Search e) c.from_residual-in_err-name.ensures.1
    (record {
      left_known = c.in_ok-left.left.items;
      right_known = c.in_ok-right.right.items;
      left = c.begin.new.net;
      right = c.begin-2.new.net;
      left_begun = subst (λ (names : List (List ℕ)). IsBegun a names s.rows c.in_ok-left.left.items c.begin.new.net) c.in_ok-header.ensures c.in_ok-left.ensures;
      right_begun = subst (λ (names : List (List ℕ)). IsBegun b names s.rows c.in_ok-right.right.items c.begin-2.new.net) c.in_ok-header.ensures c.in_ok-right.ensures;
      said = c.in_err-name.ensures;
    })

pub returns-in-Searched : goal.returns-in-Searched
returns-in-Searched c =
    let a = c.args.a in
    let b = c.args.b in
    let k = c.args.c.now in
    let s = c.args.stimulus.now in
    let cycles = c.args.cycles in
    let conflicts = c.args.conflicts in
    let l = c.begin.new.net in
    let r = c.begin-2.new.net in
    let left = c.in_ok-left.left.items in
    let right = c.in_ok-right.right.items in
    let found = subst (λ (m : SearchUnder). IsMadeUnder l r k cycles conflicts m) c.in-Searched.is c.in_ok-name.ensures in
    let name = c.in-Searched.name in
    let made = c.in-Searched.searched in
    let j = c.in_ok-judged-in-Searched.judged in
    let told : IsTold l r k s.names s.rows left right cycles conflicts name made j =
    subst (λ (ls : List (Option Bool)). IsTold l r k s.names s.rows ls right cycles conflicts name made j) c.deref.ensures.value
    (subst (λ (rs : List (Option Bool)). IsTold l r k s.names s.rows c.deref.result.now rs cycles conflicts name made j) c.deref-2.ensures.value c.in_ok-judged-in-Searched.ensures) in
    let h : Behind = record { left_known = left; right_known = right; left = l; right = r; cycles = cycles; made = made; shown = told.shown } in
    let is : IsBehindUnder a b k s.names s.rows cycles conflicts h = record {
      last_is = refl;
      left_begun = subst (λ (names : List (List ℕ)). IsBegun a names s.rows left l) c.in_ok-header.ensures c.in_ok-left.ensures;
      right_begun = subst (λ (names : List (List ℕ)). IsBegun b names s.rows right r) c.in_ok-header.ensures c.in_ok-right.ensures;
      searched = found.0;
    } in
    inl (judged_by a b k s.names s.rows cycles conflicts s.fit h is c.requires.right.distinct j name found.1 told refl)

pub returns : goal.returns
returns c =
    let a = c.args.a in
    let b = c.args.b in
    let k = c.args.c.now in
    let s = c.args.stimulus.now in
    let cycles = c.args.cycles in
    let conflicts = c.args.conflicts in
    let l = c.begin.new.net in
    let r = c.begin-2.new.net in
    let left = c.in_ok-left.left.items in
    let right = c.in_ok-right.right.items in
    let found = subst (λ (m : SearchUnder). IsMadeUnder l r k cycles conflicts m) c.in-Undecided.is c.in_ok-name.ensures in
    let j = c.in_ok-judged-in-Undecided.judged in
    let says = c.in_ok-judged-in-Undecided.ensures in
    inr (record {
      left_known = left;
      right_known = right;
      left = l;
      right = r;
      left_begun = subst (λ (names : List (List ℕ)). IsBegun a names s.rows left l) c.in_ok-header.ensures c.in_ok-left.ensures;
      right_begun = subst (λ (names : List (List ℕ)). IsBegun b names s.rows right r) c.in_ok-header.ensures c.in_ok-right.ensures;
      matches = found.0;
      proof = c.in-Undecided.proof;
      is = found.1.0;
      judgement_is = says.judgement;
      proofs_are = says.proofs;
      text_is = subst (λ (name : List ℕ). j.text ≡ undecided_behind l r name conflicts (length s.rows) left right) found.1.1
          (subst (λ (ls : List (Option Bool)). j.text ≡ undecided_behind l r c.in-Undecided.name conflicts (length s.rows) ls right) c.deref.ensures.value
          (subst (λ (rs : List (Option Bool)). j.text ≡ undecided_behind l r c.in-Undecided.name conflicts (length s.rows) c.deref.result.now rs) c.deref-2.ensures.value says.text));
    })
