-- Both functions, and what they reach.
use Rattle.std.proofs.Common.{◌<◌, [], ◌∷◌, length, Err, sym, ap, subst}
use Rattle.std.proofs.lemmas.Result.{err_from_is_err_and}
use Rattle.circuit_theory.specs.Joined.{Left}
use Rattle.event_nodes.specs.View.{EventCircuitView}
use Rattle.event_nodes.proofs.Growing.{grows_refl}
use Rattle.event_form.specs.Functions.{signal_start}
use Rattle.event_form.specs.event_agreement.event_pairs.Functions.{IsEventFunction}
use Rattle.event_form.specs.event_agreement.pair_events.View.{side_of_both}
use Rattle.event_form.proofs.Asking.{function_on, later_refl, later_trans}
use Rattle.event_form.proofs.Counted.{left_counted, none_counted}
use Rattle.event_form.proofs.Refusing.{all_within, error_is, memory_refused, nothing_within, ok_refused, refused_later}
use Rattle.event_form.proofs.event_findings.unshown_pairs.Reaching.{reach_is, stays_counted}
use Rattle.event_form.proofs.event_findings.unshown_pairs.reach.reach_of.Goals as goal

pub unfold-requires-2-clause-signal : goal.unfold-requires-2-clause-signal
unfold-requires-2-clause-signal c = subst (λ (e : EventCircuitView). c.args.pair.now.right.0 < length e.net.drivers) (sym c.in_ok-left.ensures.later.right) c.requires.pair.right

pub returns-clause-reach : goal.returns-clause-reach
returns-clause-reach c =
    let e = c.unfold-2.new.events in
    let left : IsEventFunction (side_of_both e) e.events (Left c.args.pair.now.left.0) c.in_ok-left.left =
    function_on c.unfold.new.events e c.keeps-2.ensures.kept.events c.keeps-3.ensures.kept.events c.in_ok-right.ensures.later (Left c.args.pair.now.left.0) c.in_ok-left.left c.in_ok-left.ensures.function in
    let right = c.in_ok-right.ensures.function in
    reach_is (side_of_both e) e.events.children c.args.pair.now c.in_ok-left.left c.in_ok-right.right c.as_slice.result.now c.as_slice-2.result.now (record { nodes = c.in_ok-nodes.nodes; only_always = c.both.result })
    left.nodes right.nodes left.only_is right.only_is c.as_slice.ensures c.as_slice-2.ensures c.in_ok-nodes.ensures c.both.ensures

pub returns-clause-later : goal.returns-clause-later
returns-clause-later c = later_trans c.args.events.now c.unfold.new.events c.unfold-2.new.events c.in_ok-left.ensures.later c.in_ok-right.ensures.later

pub returns-clause-counted : goal.returns-clause-counted
returns-clause-counted c = stays_counted c.args.events.now c.unfold.new.events c.unfold-2.new.events c.args.pair.now c.in_ok-left.ensures.counted c.in_ok-right.ensures.counted

pub returns-in_err-left-clause-refused : goal.returns-in_err-left-clause-refused
returns-in_err-left-clause-refused c =
    let p = err_from_is_err_and c.from_residual.result c.from_residual.ensures.1 in
    rw (p.1, p.2) (refused_later c.args.events.now c.args.events.now (later_refl c.args.events.now (grows_refl c.args.events.now.events)) [] [] (signal_start c.args.pair.now.left.0 ∷ []) [] (signal_start c.args.pair.now.left.0 ∷ []) (signal_start c.args.pair.now.right.0 ∷ [])
    (nothing_within (signal_start c.args.pair.now.left.0 ∷ [])) (all_within (signal_start c.args.pair.now.left.0 ∷ [])) (nothing_within (signal_start c.args.pair.now.right.0 ∷ [])) (nothing_within (signal_start c.args.pair.now.right.0 ∷ [])) (none_counted c.args.events.now) _ _ (λ error is. ap Err (error_is is)) c.in_err-left.ensures.refused)

pub returns-in_err-right-clause-refused : goal.returns-in_err-right-clause-refused
returns-in_err-right-clause-refused c =
    let p = err_from_is_err_and c.from_residual-in_err-right.result c.from_residual-in_err-right.ensures.1 in
    rw (p.1, p.2) (refused_later c.args.events.now c.unfold.new.events c.in_ok-left.ensures.later (signal_start c.args.pair.now.left.0 ∷ []) [] [] (signal_start c.args.pair.now.right.0 ∷ []) (signal_start c.args.pair.now.left.0 ∷ []) (signal_start c.args.pair.now.right.0 ∷ [])
    (all_within (signal_start c.args.pair.now.left.0 ∷ [])) (nothing_within (signal_start c.args.pair.now.left.0 ∷ [])) (nothing_within (signal_start c.args.pair.now.right.0 ∷ [])) (all_within (signal_start c.args.pair.now.right.0 ∷ []))
    (left_counted c.args.events.now c.unfold.new.events c.args.pair.now.left.0 c.in_ok-left.ensures.counted) _ _ (λ error is. ap Err (error_is is)) c.in_err-right.ensures.refused)

pub returns-in_err-nodes-clause-refused : goal.returns-in_err-nodes-clause-refused
returns-in_err-nodes-clause-refused c =
    let p = err_from_is_err_and c.from_residual-in_err-nodes.result c.from_residual-in_err-nodes.ensures.1 in
    rw (p.1, p.2) (memory_refused (signal_start c.args.pair.now.left.0 ∷ []) (signal_start c.args.pair.now.right.0 ∷ []) c.args.events.now)

pub returns-clause-refused : goal.returns-clause-refused
returns-clause-refused c = ok_refused (signal_start c.args.pair.now.left.0 ∷ []) (signal_start c.args.pair.now.right.0 ∷ []) c.args.events.now (record { nodes = c.in_ok-nodes.nodes; only_always = c.both.result })
