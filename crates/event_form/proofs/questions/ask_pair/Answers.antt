-- Both functions, and what is asked of them.
use Rattle.std.proofs.Common.{◌<◌, [], ◌∷◌, length, Err, sym, ap, subst}
use Rattle.std.proofs.lemmas.Result.{err_from_is_err_and}
use Rattle.circuit_theory.specs.Joined.{Left}
use Rattle.event_nodes.specs.View.{EventCircuitView}
use Rattle.event_nodes.proofs.Growing.{grows_refl}
use Rattle.event_classes.specs.event_functions.Functions.{signal_start}
use Rattle.event_form.proofs.Asking.{function_on, later_refl, later_trans, more_is_later}
use Rattle.event_form.proofs.Counted.{left_counted, none_counted, pair_counted, within_same}
use Rattle.event_form.proofs.Refusing.{all_within, error_is, memory_refused, nothing_within, ok_refused, refused_later}
use Rattle.event_form.proofs.Stopping.{left_stopped, right_stopped, pair_memory_stopped, pair_never_stopped}
use Rattle.event_form.proofs.questions.ask_pair.Goals as goal

pub unfold-requires-2-clause-signal : goal.unfold-requires-2-clause-signal
unfold-requires-2-clause-signal c = subst (λ (e : EventCircuitView). c.args.pair.now.right.0 < length e.net.drivers) (sym c.in_ok-left.ensures.later.right) c.requires.pair.right

pub obligation_of-requires-clause-left : goal.obligation_of-requires-clause-left
obligation_of-requires-clause-left c = function_on c.unfold.new.events c.unfold-2.new.events c.keeps-2.ensures.kept.events c.keeps-3.ensures.kept.events c.in_ok-right.ensures.later (Left c.args.pair.now.left.0) c.in_ok-left.left c.in_ok-left.ensures.function

pub returns-clause-within : goal.returns-clause-within
returns-clause-within c = within_same c.unfold-2.new.events c.obligation_of.new.events c.obligation_of.ensures.more c.in_ok-right.ensures.within

pub returns-clause-later : goal.returns-clause-later
returns-clause-later c =
    later_trans c.args.events.now c.unfold.new.events c.obligation_of.new.events c.in_ok-left.ensures.later
    (later_trans c.unfold.new.events c.unfold-2.new.events c.obligation_of.new.events c.in_ok-right.ensures.later (more_is_later c.unfold-2.new.events c.obligation_of.new.events c.obligation_of.ensures.more))

pub returns-clause-counted : goal.returns-clause-counted
returns-clause-counted c = pair_counted c.args.events.now c.unfold.new.events c.unfold-2.new.events c.obligation_of.new.events c.args.pair.now c.in_ok-left.ensures.counted c.in_ok-right.ensures.counted c.obligation_of.ensures.more

pub returns-in_err-left-clause-refused : goal.returns-in_err-left-clause-refused
returns-in_err-left-clause-refused c =
    let p = err_from_is_err_and c.from_residual.result c.from_residual.ensures.1 in
    rw (p.1, p.2) (refused_later c.args.events.now c.args.events.now (later_refl c.args.events.now (grows_refl c.args.events.now.events)) [] [] (signal_start c.args.pair.now.left.0 ∷ []) [] (signal_start c.args.pair.now.left.0 ∷ []) (signal_start c.args.pair.now.right.0 ∷ [])
    (nothing_within (signal_start c.args.pair.now.left.0 ∷ [])) (all_within (signal_start c.args.pair.now.left.0 ∷ [])) (nothing_within (signal_start c.args.pair.now.right.0 ∷ [])) (nothing_within (signal_start c.args.pair.now.right.0 ∷ [])) (none_counted c.args.events.now) _ _ (λ error is. ap Err (error_is is)) c.in_err-left.ensures.refused)

pub returns-in_err-right-clause-refused : goal.returns-in_err-right-clause-refused
returns-in_err-right-clause-refused c =
    let p = err_from_is_err_and c.from_residual-in_err-right.result c.from_residual-in_err-right.ensures.1 in
    rw (p.1, p.2) (refused_later c.args.events.now c.unfold.new.events c.in_ok-left.ensures.later (signal_start c.args.pair.now.left.0 ∷ []) [] [] (signal_start c.args.pair.now.right.0 ∷ []) (signal_start c.args.pair.now.left.0 ∷ []) (signal_start c.args.pair.now.right.0 ∷ [])
    (all_within (signal_start c.args.pair.now.left.0 ∷ [])) (nothing_within (signal_start c.args.pair.now.left.0 ∷ [])) (nothing_within (signal_start c.args.pair.now.right.0 ∷ [])) (all_within (signal_start c.args.pair.now.right.0 ∷ []))
    (left_counted c.args.events.now c.unfold.new.events c.args.pair.now.left.0 c.in_ok-left.ensures.counted) _ _ (λ error is. ap Err (error_is is)) c.in_err-right.ensures.refused)

pub returns-in_err-obligation-clause-refused : goal.returns-in_err-obligation-clause-refused
returns-in_err-obligation-clause-refused c =
    let p = err_from_is_err_and c.from_residual-in_err-obligation.result c.from_residual-in_err-obligation.ensures.1 in
    rw (p.1, p.2) (memory_refused (signal_start c.args.pair.now.left.0 ∷ []) (signal_start c.args.pair.now.right.0 ∷ []) c.args.events.now)

pub returns-clause-refused : goal.returns-clause-refused
returns-clause-refused c = ok_refused (signal_start c.args.pair.now.left.0 ∷ []) (signal_start c.args.pair.now.right.0 ∷ []) c.args.events.now c.in_ok-obligation.obligation

pub returns-in_err-left-clause-stopped : goal.returns-in_err-left-clause-stopped
returns-in_err-left-clause-stopped c =
    let p = err_from_is_err_and c.from_residual.result c.from_residual.ensures.1 in
    rw (p.1, p.2) (left_stopped c.args.events.now c.args.pair.now (later_refl c.args.events.now (grows_refl c.args.events.now.events)) c.keeps.ensures.kept c.keeps.ensures.once c.requires.within _ _ (λ error is. ap Err (error_is is)) c.in_err-left.ensures.stopped)

pub returns-in_err-right-clause-stopped : goal.returns-in_err-right-clause-stopped
returns-in_err-right-clause-stopped c =
    let p = err_from_is_err_and c.from_residual-in_err-right.result c.from_residual-in_err-right.ensures.1 in
    rw (p.1, p.2) (right_stopped c.args.events.now c.unfold.new.events c.args.pair.now c.in_ok-left.ensures.later c.keeps-2.ensures.kept c.keeps-2.ensures.once c.in_ok-left.ensures.within c.in_ok-left.ensures.counted _ _ (λ error is. ap Err (error_is is)) c.in_err-right.ensures.stopped)

pub returns-in_err-obligation-clause-stopped : goal.returns-in_err-obligation-clause-stopped
returns-in_err-obligation-clause-stopped c =
    let p = err_from_is_err_and c.from_residual-in_err-obligation.result c.from_residual-in_err-obligation.ensures.1 in
    rw (p.1, p.2) (pair_memory_stopped c.args.pair.now c.args.events.now)

pub returns-clause-stopped : goal.returns-clause-stopped
returns-clause-stopped c = pair_never_stopped c.args.pair.now c.args.events.now c.in_ok-obligation.obligation
