-- One place more.
use Rattle.std.proofs.Common.{◌<◌, length, get_or, arith}
use Rattle.std.proofs.lemmas.Option.{slice_get-get_or}
use Rattle.aig.proofs.Interned.{interned}
use Rattle.event_under.proofs.event_shown_under.Shifts.{next_put}
use Rattle.event_under.proofs.event_shown_under.steps.shifts_at.Goals as goal

pub loop-i-preserved : goal.loop-i-preserved
loop-i-preserved c =
    let steps = c.args.steps.now in
    let i = c.loop-i.i in
    let s = get_or steps i 0 in
    let low : i < length steps = omega (arith, c.loop-i-test.true) in
    let k = interned c.loop-i.table c.intern.new.self (0, s) c.in_ok-number.ensures.known c.in_ok-number.ensures.added in
    next_put steps i s (slice_get-get_or steps i 0 low) c.loop-i.table c.intern.new.self k.0.more c.loop-i.vars.items c.push.new.self.items c.in_ok-number.number k.0.is k.1 c.in_ok-number.ensures.here c.in_ok-push.ensures.items c.loop-i.invariant
