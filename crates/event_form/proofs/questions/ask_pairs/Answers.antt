-- One pair after the other.
use Rattle.std.proofs.Common.{◌∙◌, List, [], ◌∷◌, take, Some, Err, sym, ap, subst, arith}
use Rattle.std.specs.List.{Contains}
use Rattle.std.proofs.lemmas.List.{take_all}
use Rattle.std.proofs.lemmas.Result.{err_from_is_err_and}
use Rattle.std.proofs.lemmas.Option.{slice_get-get_or}
use Rattle.sec_setup.proofs.ports.flat_net.Places.{All-at}
use Rattle.event_nodes.proofs.Growing.{grows_refl}
use Rattle.sec_setup.specs.declared.ports.pairs.SignalPair.{SignalPair}
use Rattle.event_form.specs.event_agreement.pair_events.View.{side_of_both}
use Rattle.event_form.specs.Asked.{AreAsked, IsPairOf}
use Rattle.event_form.specs.Counted.{CountsOn, left_starts, right_starts}
use Rattle.event_classes.specs.event_functions.Functions.{signal_start}
use Rattle.event_form.proofs.Refusing.{error_is, front_within, memory_refused, ok_refused, one_within, refused_later}
use Rattle.event_form.proofs.Asking.{asked_next, asked_queries, later_refl, later_trans, pair_on}
use Rattle.event_form.proofs.Counted.{none_counted, counted_next}
use Rattle.event_form.proofs.Stopping.{memory_stopped, never_stopped, pairs_stopped}
use Rattle.event_form.proofs.questions.ask_pairs.Goals as goal

pub loop-i-init : goal.loop-i-init
loop-i-init c = record { asked = subst (AreAsked (side_of_both c.args.events.now) c.args.events.now.events c.args.cut []) (sym c.new-asked.ensures.items) tt; within = c.requires.within; later = later_refl c.args.events.now (grows_refl c.args.events.now.events); counted = none_counted c.args.events.now; graph = c.keeps.ensures.kept.events }

pub ask_pair-requires-clause-pair : goal.ask_pair-requires-clause-pair
ask_pair-requires-clause-pair c =
    pair_on c.args.events.now c.loop-i.events c.loop-i.invariant.later c.index-pairs-i.result
    (All-at (IsPairOf c.args.events.now) c.args.pairs.now c.loop-i.i c.index-pairs-i.result (slice_get-get_or c.args.pairs.now c.loop-i.i c.index-pairs-i.result (omega (arith, c.loop-i-test.true)) ∙ ap Some (sym c.index-pairs-i.is)) c.requires.pairs)

pub loop-i-preserved : goal.loop-i-preserved
loop-i-preserved c = record {
  asked = asked_next c.loop-i.events c.ask_pair.new.events c.loop-i.invariant.graph c.keeps-in-loop-i.ensures.kept.events c.in_ok-obligation.ensures.later c.args.cut c.args.pairs.now c.loop-i.i c.index-pairs-i.result c.loop-i.asked.items c.push.new.self.items c.in_ok-obligation.obligation
      (omega (arith, c.loop-i-test.true)) (sym c.index-pairs-i.is) c.in_ok-push.ensures.items c.loop-i.invariant.asked c.in_ok-obligation.ensures.asked;
  within = c.in_ok-obligation.ensures.within;
  later = later_trans c.args.events.now c.loop-i.events c.ask_pair.new.events c.loop-i.invariant.later c.in_ok-obligation.ensures.later;
  counted = counted_next c.args.events.now c.loop-i.events c.ask_pair.new.events c.args.pairs.now c.loop-i.i c.index-pairs-i.result (omega (arith, c.loop-i-test.true)) (sym c.index-pairs-i.is) c.loop-i.invariant.counted c.in_ok-obligation.ensures.counted;
  graph = c.keeps-in-loop-i.ensures.kept.events;
}

pub returns-clause-asked : goal.returns-clause-asked
returns-clause-asked c =
    subst (λ (ps : List SignalPair). AreAsked (side_of_both c.loop-i.events) c.loop-i.events.events c.args.cut ps c.loop-i.asked.items) (take_all c.loop-i.i c.args.pairs.now (omega (arith, c.loop-i-test.false))) c.loop-i.invariant.asked

pub returns-clause-queries : goal.returns-clause-queries
returns-clause-queries c =
    asked_queries (side_of_both c.loop-i.events) c.loop-i.events.events c.loop-i.invariant.graph c.args.cut (take c.loop-i.i c.args.pairs.now) c.loop-i.asked.items c.loop-i.invariant.asked

pub returns-clause-counted : goal.returns-clause-counted
returns-clause-counted c = subst (λ (ps : List SignalPair). CountsOn ps c.args.events.now c.loop-i.events) (take_all c.loop-i.i c.args.pairs.now (omega (arith, c.loop-i-test.false))) c.loop-i.invariant.counted

pub returns-in_err-obligation-clause-refused : goal.returns-in_err-obligation-clause-refused
returns-in_err-obligation-clause-refused c =
    let p = err_from_is_err_and c.from_residual.result c.from_residual.ensures.1 in
    let here : Contains c.args.pairs.now c.index-pairs-i.result = (c.loop-i.i, omega (arith, c.loop-i-test.true), sym c.index-pairs-i.is) in
    rw (p.1, p.2) (refused_later c.args.events.now c.loop-i.events c.loop-i.invariant.later (left_starts (take c.loop-i.i c.args.pairs.now)) (right_starts (take c.loop-i.i c.args.pairs.now)) (signal_start c.index-pairs-i.result.left.0 ∷ []) (signal_start c.index-pairs-i.result.right.0 ∷ [])
    (left_starts c.args.pairs.now) (right_starts c.args.pairs.now)
    (front_within (λ (q : SignalPair). signal_start q.left.0) c.args.pairs.now c.loop-i.i) (one_within (λ (q : SignalPair). signal_start q.left.0) c.args.pairs.now c.index-pairs-i.result here)
    (front_within (λ (q : SignalPair). signal_start q.right.0) c.args.pairs.now c.loop-i.i) (one_within (λ (q : SignalPair). signal_start q.right.0) c.args.pairs.now c.index-pairs-i.result here)
    c.loop-i.invariant.counted _ _ (λ error is. ap Err (error_is is)) c.in_err-obligation.ensures.refused)

pub returns-in_err-push-clause-refused : goal.returns-in_err-push-clause-refused
returns-in_err-push-clause-refused c =
    let p = err_from_is_err_and c.from_residual-in_err-push.result c.from_residual-in_err-push.ensures.1 in
    rw (p.1, p.2) (memory_refused (left_starts c.args.pairs.now) (right_starts c.args.pairs.now) c.args.events.now)

pub returns-clause-refused : goal.returns-clause-refused
returns-clause-refused c = ok_refused (left_starts c.args.pairs.now) (right_starts c.args.pairs.now) c.args.events.now c.loop-i.asked

pub returns-in_err-obligation-clause-stopped : goal.returns-in_err-obligation-clause-stopped
returns-in_err-obligation-clause-stopped c =
    let p = err_from_is_err_and c.from_residual.result c.from_residual.ensures.1 in
    rw (p.1, p.2) (pairs_stopped c.args.events.now c.loop-i.events c.args.pairs.now c.loop-i.i c.index-pairs-i.result (omega (arith, c.loop-i-test.true)) (sym c.index-pairs-i.is) c.loop-i.invariant.later c.loop-i.invariant.counted _ _
    (λ error is. ap Err (error_is is)) c.in_err-obligation.ensures.stopped)

pub returns-in_err-push-clause-stopped : goal.returns-in_err-push-clause-stopped
returns-in_err-push-clause-stopped c =
    let p = err_from_is_err_and c.from_residual-in_err-push.result c.from_residual-in_err-push.ensures.1 in
    rw (p.1, p.2) (memory_stopped c.args.pairs.now c.args.events.now)

pub returns-clause-stopped : goal.returns-clause-stopped
returns-clause-stopped c = never_stopped c.args.pairs.now c.args.events.now c.loop-i.asked
