-- What is decided under the assumption is found of the pairs.
use Rattle.std.proofs.Common.{ℕ, List, sym, subst}
use Rattle.std.specs.List.{All, AllZip}
use Rattle.circuit_theory.specs.Joined.{Either}
use Rattle.circuit_theory.specs.Frame.{EventSide}
use Rattle.obligations.specs.declared.obligation.Obligation.{Obligation}
use Rattle.assume_laws.specs.assume_shape.Shape.{assumption_of}
use Rattle.event_form.specs.event_agreement.pair_events.View.{side_of_both}
use Rattle.event_form.proofs.Asking.{side_same}
use Rattle.event_form.proofs.event_findings.unshown_pairs.class_events.Telling.{separated_stay}
use Rattle.event_under.specs.event_asked_under.Questions.{named_at}
use Rattle.event_settles.specs.Cares.{CareFitsUnder}
use Rattle.event_settles.specs.Deciding.{HasOneQuery, IsCareDecided}
use Rattle.event_settles.proofs.Caring.{all_told_under, if_ok, one_queries_under, pairs_fit_under}
use Rattle.event_settles.proofs.settling.settle_pairs_under.Goals as goal

pub decide_cares-requires-clause-ones : goal.decide_cares-requires-clause-ones
decide_cares-requires-clause-ones c =
    let e = c.ask_pairs.new.events in
    let p = c.args.compared.now in
    let q = c.in-Ok-questions_of.questions in
    let a = c.requires.premise in
    let asked = c.in-Ok-questions_of.ensures.asked in
    subst (All (HasOneQuery q.aig)) (sym c.as_slice-under.ensures.value)
    (one_queries_under (assumption_of a.net a.inputs a.output) (side_of_both e) e.events q.aig (named_at e.events.children q) p.cut c.args.conflicts c.keeps-3.ensures.graph asked.distinct p.pairs.now c.as_slice.result.now q.asked.items
    (asked.under a.net a.inputs a.output a.size a.is))

pub tell_idle-requires-clause-separated : goal.tell_idle-requires-clause-separated
tell_idle-requires-clause-separated c =
    let later = c.in-Ok.ensures.later in
    separated_stay c.args.events.now c.ask_pairs.new.events c.args.aparts.now c.keeps.ensures.kept.events later.left later.right later.count later.grows c.requires.separated

pub returns : goal.returns
returns c =
    let old = c.args.events.now in
    let e = c.ask_pairs.new.events in
    let p = c.args.compared.now in
    let q = c.in-Ok-questions_of.questions in
    let later = c.in-Ok.ensures.later in
    let asked = c.in-Ok-questions_of.ensures.asked in
    let cares = c.in_ok-cares.cares in
    if_ok c.tell_idle.result
    (λ told t n inputs output size is.
    subst (λ (s : EventSide (Either ℕ ℕ)). AllZip (CareFitsUnder (assumption_of n inputs output) s c.args.conflicts) p.pairs.now told) (sym (side_same old e later.left later.right))
    (all_told_under (side_of_both e) c.args.conflicts (assumption_of n inputs output) p.pairs.now cares told
    (pairs_fit_under (assumption_of n inputs output) (side_of_both e) e.events q.aig (named_at e.events.children q) p.cut c.args.conflicts c.keeps-3.ensures.graph asked.distinct p.pairs.now c.as_slice.result.now q.asked.items cares
    (asked.under n inputs output size is)
    (subst (λ (os : List Obligation). AllZip (IsCareDecided q.aig c.args.conflicts) os cares) c.as_slice-under.ensures.value c.in_ok-cares.ensures)) t))
    c.tell_idle.ensures
