-- What is asked, what is found of it, and why it isn't.
use Rattle.std.proofs.Common.{Err, sym, ap, subst}
use Rattle.std.proofs.lemmas.Result.{err_from_is_err_and}
use Rattle.obligations.specs.Asked as graph_level
use Rattle.event_form.specs.event_findings.unshown_pairs.class_events.Separated.{AreSeparated}
use Rattle.event_form.proofs.event_findings.unshown_pairs.class_events.Telling.{separated_stay}
use Rattle.event_form.proofs.Asking.{later_trans}
use Rattle.event_form.proofs.Refusing.{error_is}
use Rattle.event_comparison.specs.Asked.{AreAskedFrom}
use Rattle.event_comparison.proofs.Comparing.{asked_from, compared_later, counted_on}
use Rattle.event_comparison.proofs.Fitting.{compared_agree, compared_fits}
use Rattle.event_comparison.proofs.Repeating.{never_again, none_refused, stopped_told}
use Rattle.event_comparison.proofs.comparison.compare_events.Goals as goal

pub findings_of-requires-clause-from : goal.findings_of-requires-clause-from
findings_of-requires-clause-from c =
    let old = c.args.events.now in
    let e = c.ask_pairs.new.events in
    let later = c.in_ok-asked.ensures.later in
    let separated : AreSeparated e c.args.aparts.now = separated_stay old e c.args.aparts.now c.keeps.ensures.kept.events later.left later.right later.count later.grows c.requires.separated in
    subst (AreAskedFrom e c.args.aparts.now c.args.compared.now) (sym c.as_slice.ensures.value)
    (asked_from old e later c.args.aparts.now c.args.compared.now c.in_ok-asked.asked.items (compared_later old e later c.args.compared.now c.requires.compared) c.requires.pairs c.in_ok-asked.ensures.within separated c.in_ok-asked.ensures.asked)

pub findings_of-requires-clause-queries : goal.findings_of-requires-clause-queries
findings_of-requires-clause-queries c = subst (graph_level.AreAsked c.ask_pairs.new.events.events.graph) (sym c.as_slice.ensures.value) c.in_ok-asked.ensures.queries

pub returns-clause-fits : goal.returns-clause-fits
returns-clause-fits c =
    compared_fits c.args.events.now c.ask_pairs.new.events c.findings_of.new.events c.in_ok-asked.ensures.later c.in_ok-findings.ensures.later c.keeps-2.ensures.kept.events c.keeps-3.ensures.kept c.keeps-3.ensures.events c.args.compared.now c.args.conflicts c.in_ok-asked.asked.items c.as_slice.result.now
    c.as_slice.ensures.value c.requires.compared c.in_ok-asked.ensures.asked c.in_ok-findings.findings c.in_ok-findings.ensures.found

pub returns-clause-agree : goal.returns-clause-agree
returns-clause-agree c equal =
    compared_agree c.args.events.now c.ask_pairs.new.events c.findings_of.new.events c.in_ok-asked.ensures.later c.in_ok-findings.ensures.later c.keeps-2.ensures.kept c.keeps-2.ensures.events c.keeps-3.ensures.kept c.keeps-3.ensures.events c.args.compared.now c.args.conflicts c.in_ok-asked.asked.items
    c.as_slice.result.now c.as_slice.ensures.value c.requires.compared c.in_ok-asked.ensures.asked c.in_ok-findings.findings c.in_ok-findings.ensures.found equal

pub returns-clause-counted : goal.returns-clause-counted
returns-clause-counted c = record {
  later = later_trans c.args.events.now c.ask_pairs.new.events c.findings_of.new.events c.in_ok-asked.ensures.later c.in_ok-findings.ensures.later;
  within = c.in_ok-findings.ensures.within;
  counts = counted_on c.args.events.now c.ask_pairs.new.events c.findings_of.new.events c.args.compared.now.pairs.now c.in_ok-asked.ensures.counted c.in_ok-findings.ensures.counted;
}

pub returns-in_err-asked-clause-refused : goal.returns-in_err-asked-clause-refused
returns-in_err-asked-clause-refused c =
    let p = err_from_is_err_and c.from_residual.result c.from_residual.ensures.1 in
    rw (p.1, p.2) (stopped_told c.args.events.now c.args.compared.now.pairs.now _ _ (λ error is. ap Err (error_is is)) c.in_err-asked.ensures.stopped)

pub returns-in_err-findings-clause-refused : goal.returns-in_err-findings-clause-refused
returns-in_err-findings-clause-refused c =
    let p = err_from_is_err_and c.from_residual-in_err-findings.result c.from_residual-in_err-findings.ensures.1 in
    rw (p.1, p.2) (never_again c.args.events.now c.ask_pairs.new.events c.keeps.ensures.kept c.requires.within.starts c.in_ok-asked.ensures.later c.keeps-2.ensures.kept c.keeps-2.ensures.once c.in_ok-asked.ensures.within c.args.compared.now.pairs.now c.in_ok-asked.ensures.counted _ _
    (λ error is. ap Err (error_is is)) c.in_err-findings.ensures.refused)

pub returns-clause-refused : goal.returns-clause-refused
returns-clause-refused c = none_refused c.args.events.now c.args.compared.now.pairs.now c.in_ok-findings.findings
