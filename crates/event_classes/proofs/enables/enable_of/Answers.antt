-- The enable that was unfolded can be asked about, and what was counted is within its numbers.
use Rattle.std.proofs.Common.{Err, ap}
use Rattle.std.proofs.lemmas.Result.{err_from_is_err_and}
use Rattle.flat_net.proofs.Nets.{some_at}
use Rattle.edbf_unfold.specs.event_literals.event_walk.Walk.{enable_start}
use Rattle.event_classes.proofs.Refusing.{refused_alike, ok_refused, error_is}
use Rattle.event_classes.proofs.Enabling.{ready_enable}
use Rattle.event_classes.proofs.enables.enable_of.Goals as goal

pub returns-clause-ready : goal.returns-clause-ready
returns-clause-ready c =
    let some = some_at c.args.circuit.now.net.latches c.args.j c.requires.latch in
    ready_enable c.args.circuit.now c.unfold_enable.new.events some.0 (record { value = c.in_ok-made.made.value; care = c.in_ok-made.made.care; vars = c.in_ok-made.made.vars }) c.keeps.ensures.sound c.keeps.ensures.circuit c.keeps-2.ensures.events (c.in_ok-made.ensures.function some.0 some.1)

pub returns-clause-weighed : goal.returns-clause-weighed
returns-clause-weighed c = let some = some_at c.args.circuit.now.net.latches c.args.j c.requires.latch in (c.in_ok-made.ensures.counted some.0 some.1).on.weighed

pub returns-clause-few : goal.returns-clause-few
returns-clause-few c = let some = some_at c.args.circuit.now.net.latches c.args.j c.requires.latch in (c.in_ok-made.ensures.counted some.0 some.1).on.few

pub returns-clause-refused : goal.returns-clause-refused
returns-clause-refused c = λ l at. ok_refused c.args.circuit.now c.args.events.now.children c.unfold_enable.new.events.children (enable_start l) c.args.count.now.places _

pub returns-in_err-made-clause-refused : goal.returns-in_err-made-clause-refused
returns-in_err-made-clause-refused c =
    let p = err_from_is_err_and c.from_residual.result c.from_residual.ensures.1 in
    λ l at. rw (p.1, p.2) (refused_alike c.args.circuit.now c.args.events.now.children c.unfold_enable.new.events.children (enable_start l) c.args.count.now.places _ _ (λ error is. ap Err (error_is is)) (c.in_err-made.ensures.refused l at))
