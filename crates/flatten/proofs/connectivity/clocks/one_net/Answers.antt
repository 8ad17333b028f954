use Rattle.std.proofs.Common.{get_or, Some, None, sym, ap, ◌∙◌}
use Rattle.std.proofs.lemmas.Option.{slice_get-get_or}
use Rattle.flatten.proofs.connectivity.ClockTables.{one_passed, one_step, other_step, one_all, none_left}
use Rattle.flatten.proofs.connectivity.clocks.one_net.Goals as goal

pub loop-signal-preserved-in_default : goal.loop-signal-preserved-in_default
loop-signal-preserved-in_default c =
    let signals = c.args.signals.now in
    let nets = c.args.nets.now in
    let i = c.loop-signal.signal-index in
    let n = get_or signals i 0 in
    one_passed nets signals i n c.loop-signal.clock (slice_get-get_or signals i 0 c.loop-signal-test.true)
    (slice_get-get_or nets n None (c.requires i 0 c.loop-signal-test.true) ∙ ap Some (none_left (get_or nets n None) c.in_default.not-Some)) c.loop-signal.invariant

pub returns-then-unwrap_or-net : goal.returns-then-unwrap_or-net
returns-then-unwrap_or-net c =
    let signals = c.args.signals.now in
    let nets = c.args.nets.now in
    let i = c.loop-signal.signal-index in
    let n = get_or signals i 0 in
    other_step nets signals i n c.in-Some.net c.loop-signal.clock (slice_get-get_or signals i 0 c.loop-signal-test.true)
    (slice_get-get_or nets n None (c.requires i 0 c.loop-signal-test.true) ∙ ap Some c.in-Some.is) (λ e. c.if-unwrap_or-net.true (c.unwrap_or.ensures ∙ e)) c.loop-signal.invariant

pub loop-signal-preserved : goal.loop-signal-preserved
loop-signal-preserved c =
    let signals = c.args.signals.now in
    let nets = c.args.nets.now in
    let i = c.loop-signal.signal-index in
    let n = get_or signals i 0 in
    one_step nets signals i n c.in-Some.net c.loop-signal.clock (slice_get-get_or signals i 0 c.loop-signal-test.true)
    (slice_get-get_or nets n None (c.requires i 0 c.loop-signal-test.true) ∙ ap Some c.in-Some.is) (sym c.unwrap_or.ensures ∙ c.if-unwrap_or-net.false) c.loop-signal.invariant

pub returns : goal.returns
returns c = one_all c.args.nets.now c.args.signals.now c.loop-signal.signal-index c.loop-signal.clock c.loop-signal-test.false c.loop-signal.invariant
