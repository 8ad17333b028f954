-- What is decided over the event graph is found of the pairs.
use Rattle.std.proofs.Common.{ℕ, List, sym, subst}
use Rattle.std.specs.List.{All, AllZip}
use Rattle.circuit_theory.specs.Joined.{Either}
use Rattle.circuit_theory.specs.Frame.{EventSide}
use Rattle.aig.specs.declared.node.Node.{Node}
use Rattle.obligations.specs.declared.obligation.Obligation.{Obligation}
use Rattle.event_form.specs.event_agreement.pair_events.View.{side_of_both}
use Rattle.event_form.proofs.Asking.{side_same}
use Rattle.event_form.proofs.event_findings.unshown_pairs.class_events.Telling.{separated_stay}
use Rattle.event_settles.specs.Cares.{CareFits}
use Rattle.event_settles.specs.Deciding.{HasOneQuery, IsCareDecided}
use Rattle.event_settles.proofs.Caring.{all_told, if_ok, one_queries, pairs_fit}
use Rattle.event_settles.proofs.settling.settle_pairs.Goals as goal

pub decide_cares-requires-clause-ones : goal.decide_cares-requires-clause-ones
decide_cares-requires-clause-ones c =
    let e = c.ask_pairs.new.events in
    let p = c.args.compared.now in
    subst (λ (g : List Node). All (HasOneQuery g) c.as_slice.result.now) (sym c.aig.ensures)
    (subst (All (HasOneQuery e.events.graph)) (sym c.as_slice.ensures.value) (one_queries (side_of_both e) e.events p.cut c.keeps-2.ensures.kept.events p.pairs.now c.in-Ok.asked.items c.in-Ok.ensures.asked))

pub tell_idle-requires-clause-separated : goal.tell_idle-requires-clause-separated
tell_idle-requires-clause-separated c =
    let later = c.in-Ok.ensures.later in
    separated_stay c.args.events.now c.ask_pairs.new.events c.args.aparts.now c.keeps.ensures.kept.events later.left later.right later.count later.grows c.requires.separated

pub returns : goal.returns
returns c =
    let old = c.args.events.now in
    let e = c.ask_pairs.new.events in
    let p = c.args.compared.now in
    let later = c.in-Ok.ensures.later in
    let cares = c.in_ok-cares.cares in
    let found =
    pairs_fit (side_of_both e) e.events p.cut c.args.conflicts c.keeps-2.ensures.kept.events p.pairs.now c.in-Ok.asked.items cares c.in-Ok.ensures.asked
    (subst (λ (os : List Obligation). AllZip (IsCareDecided e.events.graph c.args.conflicts) os cares) c.as_slice.ensures.value (subst (λ (g : List Node). AllZip (IsCareDecided g c.args.conflicts) c.as_slice.result.now cares) c.aig.ensures c.in_ok-cares.ensures)) in
    if_ok c.tell_idle.result
    (λ told t.
    subst (λ (s : EventSide (Either ℕ ℕ)). AllZip (CareFits s c.args.conflicts) p.pairs.now told) (sym (side_same old e later.left later.right))
    (all_told (side_of_both e) c.args.conflicts p.pairs.now cares told found t))
    c.tell_idle.ensures
